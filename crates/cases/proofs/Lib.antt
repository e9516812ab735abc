-- The proved cases of document 01, the sizes of the slices, its edges, and generated books: answers computed over the definitions.
pub mod Table
pub mod Sizes
pub mod Edges
pub mod Generated

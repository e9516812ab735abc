-- The laws of the loop over the records.
pub mod Plain
pub mod Books

-- Laws of the definitions of specs/.
pub mod Buffer
pub mod Plain
pub mod Pieces
pub mod Cases

-- Laws of the definitions of specs/.
pub mod Lays
pub mod Aims

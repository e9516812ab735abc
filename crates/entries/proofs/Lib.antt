-- Laws of the definitions of specs/.
pub mod Going
pub mod Dirs
pub mod Beside

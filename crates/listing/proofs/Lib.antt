-- Laws of the definitions of specs/.
pub mod Sizes
pub mod Whole
pub mod Steps

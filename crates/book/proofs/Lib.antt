-- Laws of the definitions of specs/.
pub mod Table
pub mod Widths
pub mod Steps

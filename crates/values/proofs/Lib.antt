-- Laws of the definitions of specs/.
pub mod Lengths
pub mod Forms

-- Laws of the definitions of specs/.
pub mod Emits
pub mod Outputs

-- Laws of the definitions of specs/.
pub mod Prefixes
pub mod Others
pub mod Rests

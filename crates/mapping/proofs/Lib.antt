-- Laws of the definitions of specs/.
pub mod Mapped
pub mod Sites

-- Laws of the definitions that the functions are proved equal to.
pub mod Listed
pub mod Sites

-- Laws of the definitions of specs/.
pub mod Ends
pub mod Parents
pub mod Names

-- Laws of the definitions of specs/.
pub mod Tokens
pub mod Fate
pub mod Fronts
pub mod Tries
pub mod Cases

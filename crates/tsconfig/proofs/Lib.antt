-- Laws of the definitions of specs/, and worked examples.
pub mod Flat
pub mod Map
pub mod Cases
pub mod Style
pub mod Tries

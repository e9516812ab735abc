-- Demand 3, what document 01 says of the definitions in words, and worked examples.
pub mod Demand3
pub mod Laws
pub mod Replies
pub mod Numbered
pub mod Promises
pub mod Supplied
pub mod Cases

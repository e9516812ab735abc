-- Laws of the load, demand 3, and worked examples.
pub mod Tally
pub mod Line
pub mod Load
pub mod Fuel
pub mod Demand3
pub mod Inside
pub mod Cases

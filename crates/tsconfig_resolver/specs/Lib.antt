pub mod Line
pub mod Load
pub mod References
pub mod Find
pub mod Project
pub mod Demand3

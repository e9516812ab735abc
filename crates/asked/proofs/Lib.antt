-- Laws of filled outputs.
pub mod Filled

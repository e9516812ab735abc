-- The laws of what is wrong with a command.
pub mod Arms
pub mod Parts
pub mod Keeps
pub mod Faults

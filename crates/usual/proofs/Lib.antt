-- The laws of commands that are taken in passing.
pub mod Most
pub mod Passing
pub mod Flags
pub mod Keys
pub mod Runs

-- The laws of commands that are taken in passing, and of those that are looked at.
pub mod Begins
pub mod Passes
pub mod Ends
pub mod Mapped

-- The laws of strings that meet.
pub mod Rows
pub mod Marks
pub mod Places
pub mod Files
pub mod Keeping
pub mod Cases

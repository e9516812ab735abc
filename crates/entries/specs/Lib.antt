pub mod Entries
pub mod Opens

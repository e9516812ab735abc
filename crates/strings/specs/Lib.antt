pub mod Strings
pub mod Scan

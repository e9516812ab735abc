pub mod Config
pub mod Bracket
pub mod Parsed
pub mod Build
pub mod Claims
pub mod Mapping
pub mod Listing
pub mod Laid

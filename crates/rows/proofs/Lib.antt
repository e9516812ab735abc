-- Laws of the definitions of specs/.
pub mod Lists
pub mod Slots
pub mod Own
pub mod Merge
pub mod Begins
pub mod Names
pub mod Configs
pub mod Fields
pub mod Books

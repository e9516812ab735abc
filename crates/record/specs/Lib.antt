pub mod Read
pub mod Lists

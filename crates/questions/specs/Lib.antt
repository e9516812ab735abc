pub mod Questions
pub mod Replies
pub mod Numbered
pub mod Demand3
pub mod Promises

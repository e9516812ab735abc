pub mod Rows
pub mod Records
pub mod Own
pub mod Merge
pub mod Checked
pub mod Sets

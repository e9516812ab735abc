pub mod Configs
pub mod Sets
pub mod Sites

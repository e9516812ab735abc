pub mod Admitted
pub mod Files

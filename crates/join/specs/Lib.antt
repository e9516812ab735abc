pub mod Join
pub mod Plain

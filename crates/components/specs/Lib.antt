pub mod Components
pub mod Places

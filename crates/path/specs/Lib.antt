pub mod Path
pub mod Left

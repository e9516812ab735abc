pub mod Asked
pub mod Table

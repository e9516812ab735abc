-- Laws of the walk over components.
pub mod Walk

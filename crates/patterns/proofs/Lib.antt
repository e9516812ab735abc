-- Laws of the definitions of specs/, and the edges of the rule as one table.
pub mod Stars
pub mod Lanes
pub mod Blocks
pub mod Ways
pub mod Cases

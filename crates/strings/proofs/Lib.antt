-- Laws of the definitions of specs/, and the edges of the rules as one table.
pub mod Gather
pub mod Tame
pub mod Lanes
pub mod Blocks
pub mod Cases

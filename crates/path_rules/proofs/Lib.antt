-- Laws of the definitions of specs/, and the edges of the rules as one table.
pub mod Lanes
pub mod Places
pub mod Ways
pub mod Cases

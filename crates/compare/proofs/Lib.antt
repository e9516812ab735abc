-- Laws of the definitions of specs/, and the edges of covers as one table.
pub mod Ways
pub mod Cases

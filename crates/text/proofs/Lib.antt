-- Laws of the definitions of specs/.
pub mod Picks
pub mod Scans
pub mod Parts
pub mod Backwards
pub mod Lanes

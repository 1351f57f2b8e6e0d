pub mod SlopeSums
pub mod Lanes
pub mod Moves
pub mod Split

pub mod Pieces
pub mod Tests
pub mod Lanes
pub mod Tables
pub mod Bends
pub mod Numerators

pub mod Bounds
pub mod Squares
pub mod Walk
pub mod Remaining
pub mod Projections

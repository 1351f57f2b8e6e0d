pub mod Terms
pub mod Lanes
pub mod ValueRows
pub mod TightLimits
pub mod RowJoins
pub mod Joins

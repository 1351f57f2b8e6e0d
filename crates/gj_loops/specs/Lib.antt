pub mod Lanes
pub mod IndexSets

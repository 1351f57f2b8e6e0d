pub mod LimitGroups
pub mod LimitGroupOutcomes
pub mod SparseRows
pub mod Steps
pub mod Merging
pub mod Changes

pub mod LimitSlacks
pub mod LimitRows
pub mod TightSets
pub mod Unknowns
pub mod Columns
pub mod Places
pub mod SparseSums
pub mod Decided

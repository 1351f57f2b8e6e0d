pub mod ColumnSets
pub mod SparseRows
pub mod SparseSteps
pub mod KeptEntries
pub mod Summing
pub mod EntrySums
pub mod LeftRows
pub mod SeenRows

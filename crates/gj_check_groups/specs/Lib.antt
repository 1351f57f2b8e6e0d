pub mod Groups
pub mod RowNumbers
pub mod KeptTable
pub mod GroupOutcomes

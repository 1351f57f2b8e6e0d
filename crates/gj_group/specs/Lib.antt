pub mod GroupRows
pub mod RowsToCome
pub mod Faults
pub mod Decision

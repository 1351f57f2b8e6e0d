pub mod Faults
pub mod Decision
pub mod SystemRows
pub mod NamedRows
pub mod RowsToCome

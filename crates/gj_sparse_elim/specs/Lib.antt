pub mod Sparse
pub mod Columns
pub mod Rows
pub mod Seen
pub mod Basis
pub mod Progress
pub mod Left

pub mod Rows
pub mod Basis
pub mod Source
pub mod Settled

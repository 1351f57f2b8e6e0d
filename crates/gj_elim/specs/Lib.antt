pub mod Data
pub mod KeptRows
pub mod Basis
pub mod Progress
pub mod Lazy
pub mod Tables

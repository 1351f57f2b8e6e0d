pub mod ValidFunctions
pub mod Coefficients

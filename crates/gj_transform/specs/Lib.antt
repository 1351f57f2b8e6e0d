pub mod Transforms
pub mod GreatestDivisor

pub mod Families
pub mod Faults
pub mod Numerators
pub mod Signs

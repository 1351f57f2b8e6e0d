mod OddParts
pub mod Crosswise
pub mod Floors
pub mod OneDenominator
pub mod Ratios
pub mod Reduced
pub mod Refusals
pub mod SameValues
pub mod Signs
pub mod Sums
pub mod TenPowers

pub mod Lowest
pub mod Fraction
pub mod Fits
pub mod CompareValues
pub mod Floor
pub mod SameParts
pub mod TotalOrder
pub mod ExactLaws

pub mod Forms
pub mod Elimination
pub mod Images
pub mod Transfer
pub mod RationalPoints
pub mod Cuts

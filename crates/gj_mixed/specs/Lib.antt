pub mod MixedRows
pub mod Slopes
pub mod MixedCuts

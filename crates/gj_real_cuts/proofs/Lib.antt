pub mod Over
pub mod MixedIntegerCut
pub mod RowCuts
pub mod FractionValues

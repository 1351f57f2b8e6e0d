pub mod Columns
pub mod HeldCuts
pub mod WholeColumns
pub mod Amounts
pub mod SlopeParts
pub mod MixedTerms
pub mod OneSlopes

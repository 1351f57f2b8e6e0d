pub mod CutClaim
pub mod CutLines
pub mod CutRules
pub mod Columns
pub mod MixedLines

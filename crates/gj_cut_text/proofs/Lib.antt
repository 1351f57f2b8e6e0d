pub mod CutClaims
pub mod CutLines
pub mod MixedRowLines
pub mod NamedTerms

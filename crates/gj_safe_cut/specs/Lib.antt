pub mod SafeCuts
pub mod AddedTerms

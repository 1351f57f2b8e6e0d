pub mod CommandTexts
pub mod MixedNames

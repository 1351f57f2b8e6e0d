pub mod PresentRows
pub mod ProofText
pub mod ProofGrammar
pub mod HeadWords
pub mod FirstFault
pub mod Rules
pub mod Meaning
pub mod CutRules

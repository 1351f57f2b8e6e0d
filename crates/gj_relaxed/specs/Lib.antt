pub mod RelaxedProblems
pub mod RelaxedSteps
pub mod RelaxedForms
pub mod RelaxedRows
pub mod LoosePieces
pub mod RaisedPieces
pub mod Gaps
pub mod RelaxedCuts

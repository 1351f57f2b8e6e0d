pub mod RelaxedProblems
pub mod GridValues
pub mod RelaxedSides
mod ChangedPieces
mod LoosePieces
mod RowGaps
mod NarrowGaps
mod GapSums
mod RelaxedRows
pub mod RelaxedCuts
mod OneRelaxing
mod NarrowRelaxing
mod SideForms
pub mod OneRelaxedCut
mod SideRuns

pub mod Numerators
pub mod HeldInequalities
pub mod AddedSums
pub mod MadePieces
pub mod ConstraintSlacks
pub mod TurnedColumns
pub mod RowsAtPoints
pub mod Prefixes
pub mod OneColumn
pub mod GridParts
pub mod Terms
pub mod MovedEntries
pub mod OneMove
pub mod Failing
pub mod OneRow
pub mod NarrowSums
pub mod OneTerms
pub mod OnePieces
pub mod NarrowRows
pub mod WideRoundings
pub mod OneRounding
pub mod NarrowRoundings
pub mod WideScales
pub mod Runs
pub mod WeightedRuns
mod Combinations
mod Multiples
mod DoneUpTo
mod FractionsUpTo
mod EntriesOver

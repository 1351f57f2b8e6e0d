pub mod Faults
pub mod Decision
pub mod SeenPairs
pub mod RowsToCome
pub mod PairsLeft

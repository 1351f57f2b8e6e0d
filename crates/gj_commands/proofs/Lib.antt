pub mod ByCommand
pub mod ByCheck
pub mod NamesOfMixedCuts
pub mod OneListOfMixedCuts

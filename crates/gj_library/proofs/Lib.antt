pub mod Codes
pub mod WordsSoFar
pub mod Calls
pub mod OneCall
pub mod ProblemCalls

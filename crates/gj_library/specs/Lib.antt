pub mod Call
pub mod Handing
pub mod ProblemCall

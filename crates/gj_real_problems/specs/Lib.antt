pub mod RealProblems

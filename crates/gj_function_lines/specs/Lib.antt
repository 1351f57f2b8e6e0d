pub mod PlaceFraction
pub mod FunctionLines
pub mod FaceLines
pub mod FunctionGrammar
pub mod Reading
pub mod BreakLines

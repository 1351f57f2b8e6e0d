pub mod RowSums
pub mod GroupSolutions
pub mod PairRows
pub mod DenseRows
pub mod TightTests
pub mod RowBounds
pub mod TableAnswers

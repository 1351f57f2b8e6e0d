pub mod RightSides
pub mod RowTerms

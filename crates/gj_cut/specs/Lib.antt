pub mod RowCuts

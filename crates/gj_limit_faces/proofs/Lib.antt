pub mod TermsOf
pub mod SideRows
pub mod RowSets
pub mod JoinRows
pub mod MendedRows

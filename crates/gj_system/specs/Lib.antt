pub mod Codes
pub mod Components
pub mod Counted

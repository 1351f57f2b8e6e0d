pub mod Kind
pub mod Kept

pub mod EachEntry
pub mod Residues
pub mod Inserting
pub mod Coming
pub mod KeptNumbers
pub mod SettledRows

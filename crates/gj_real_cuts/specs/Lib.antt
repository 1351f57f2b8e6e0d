pub mod Gmic
pub mod RealRows

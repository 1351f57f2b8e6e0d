pub mod Averages
pub mod Moved

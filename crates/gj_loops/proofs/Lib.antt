pub mod EqualSums
pub mod LaidNumbers
pub mod Bits
pub mod Shifts
pub mod Counts
pub mod Firsts
pub mod ToldSums

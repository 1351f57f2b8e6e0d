pub mod Divisors
pub mod FirstThatFails

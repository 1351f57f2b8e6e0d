pub mod FirstFailure
pub mod Lanes
pub mod Failures

pub mod FirstFailure
pub mod LimitCoverLines
pub mod HalvesLines

pub mod HalfNumbers
pub mod HalfTests
pub mod Refinements
pub mod DifferentHalves

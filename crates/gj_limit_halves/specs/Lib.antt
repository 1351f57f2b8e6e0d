pub mod Sides
pub mod LeastLimit
pub mod LimitLanes
pub mod Moves
pub mod LimitHalves

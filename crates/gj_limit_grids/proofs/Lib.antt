pub mod Bounds
pub mod FaceWeights
pub mod Refined
pub mod Turned
pub mod Zigzag

pub mod LimitCover
pub mod CoverOf
pub mod FirstFaces
pub mod Linking
pub mod Links
pub mod Table
pub mod Progress
pub mod Reached

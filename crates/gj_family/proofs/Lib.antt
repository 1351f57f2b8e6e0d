pub mod Given
pub mod Grids
pub mod Heights
pub mod OneFunction
pub mod Shapes
pub mod Tables

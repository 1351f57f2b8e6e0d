pub mod Appended
pub mod BorderParts
pub mod MaximalFaces
pub mod OneFacesText
pub mod OneLimitCover

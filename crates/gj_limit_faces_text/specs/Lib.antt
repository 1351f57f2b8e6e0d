pub mod LimitFacesText
pub mod AdditiveRows
pub mod AppendedFaces

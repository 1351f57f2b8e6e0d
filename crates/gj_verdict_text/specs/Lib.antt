pub mod FacePieces
pub mod FacesText
pub mod GroupText
pub mod MinimalityClaim

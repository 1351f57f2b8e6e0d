pub mod FacesTexts
pub mod WrittenPieces

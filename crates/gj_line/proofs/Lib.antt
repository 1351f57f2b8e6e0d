pub mod ThenLaws
pub mod NamedLines
pub mod SpelledNumbers

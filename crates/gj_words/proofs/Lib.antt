pub mod FlagFacts
pub mod Matches
pub mod Numbers
pub mod Parsing
pub mod Spelling

pub mod Lines
pub mod Name
pub mod NumberText
pub mod Reason
pub mod Words
pub mod SpelledNumbers
pub mod LeadingText

pub mod TableauLimits
pub mod TableauText
pub mod FirstFault
pub mod Reading

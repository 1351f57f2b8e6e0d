pub mod JsonFunction
pub mod FirstReason
pub mod Reading
pub mod JsonText

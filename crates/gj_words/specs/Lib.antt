pub mod Bare
pub mod Grammar
pub mod Line
pub mod Parser

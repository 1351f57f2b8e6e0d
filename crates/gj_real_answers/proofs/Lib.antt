pub mod Claims
pub mod MixedCuts
pub mod RealReplies

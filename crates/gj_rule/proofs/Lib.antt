pub mod ClosedForm
mod SmallCuts
pub mod SmallParts

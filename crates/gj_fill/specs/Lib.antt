pub mod FillIn
pub mod FillPoints
pub mod FirstPair
pub mod StepSizes
pub mod Faults
pub mod FilledValue

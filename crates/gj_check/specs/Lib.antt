pub mod RuleWords
pub mod FirstFailure
pub mod Coordinates
pub mod RowLimits
pub mod CutRows
pub mod CoverLines
pub mod HalvesRules
pub mod GroupRules

pub mod BreaksText
pub mod BreaksRead
pub mod FamilyLine
pub mod FamilyRead
pub mod FunctionText
pub mod FirstFault
pub mod RuleText
pub mod LinesOfFunction

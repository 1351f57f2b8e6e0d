pub mod RealMeaning
pub mod RealAnswers

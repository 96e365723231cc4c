pub mod Corrections
pub mod OneAnswers

pub mod Cuts
pub mod ReadAnswers

pub mod Answers
pub mod GuidedAnswers

pub mod GroupAnswers

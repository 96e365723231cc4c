pub mod CheckAnswers

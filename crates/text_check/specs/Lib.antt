pub mod TextAnswers

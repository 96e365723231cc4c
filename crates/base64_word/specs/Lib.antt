pub mod WordAnswers

pub mod PrintAnswers

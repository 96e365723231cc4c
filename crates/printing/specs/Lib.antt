pub mod PassAnswers
pub mod PrintOutcomes

pub mod PartAnswers

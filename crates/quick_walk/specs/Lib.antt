pub mod QuickAnswers

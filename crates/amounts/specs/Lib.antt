pub mod AmountAnswers

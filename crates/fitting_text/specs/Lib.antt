pub mod FittingAnswers

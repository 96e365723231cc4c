pub mod QuotedAnswers

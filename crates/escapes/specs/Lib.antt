pub mod EscapeAnswers

pub mod GapAnswers

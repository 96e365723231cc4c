pub mod CutAnswers

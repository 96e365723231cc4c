pub mod HeadAnswers

pub mod LetterAnswers

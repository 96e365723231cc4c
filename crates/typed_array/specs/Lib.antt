pub mod TypedArrayAnswers

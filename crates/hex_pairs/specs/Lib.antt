pub mod PairAnswers

pub mod NumberAnswers

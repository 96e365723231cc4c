pub mod TokenAnswers

pub mod LeafAnswers

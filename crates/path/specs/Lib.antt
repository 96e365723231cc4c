pub mod Following
pub mod StepAnswers

pub mod LiteralAnswers
pub mod LiteralReading

pub mod QuantumAnswers

pub mod QuantumCode

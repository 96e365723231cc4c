pub mod DigitCode
pub mod PairsCode

pub mod DigitCode
pub mod WordCode

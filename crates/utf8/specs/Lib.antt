pub mod AsciiRuns
pub mod Measured

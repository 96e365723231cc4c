pub mod Stepping
pub mod Traces

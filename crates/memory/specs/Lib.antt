pub mod Buffer
pub mod Sums

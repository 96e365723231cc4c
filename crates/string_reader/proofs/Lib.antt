pub mod ReadLoops
pub mod ReadStrings

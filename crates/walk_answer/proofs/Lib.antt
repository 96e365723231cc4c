pub mod Leaves
pub mod ItemLeaves
pub mod Turns
pub mod AnswerCode
pub mod WalkCycle
pub mod Slices

mod GroupCode
mod BlankCode
pub mod LoopCode

pub mod Several
pub mod OneItem

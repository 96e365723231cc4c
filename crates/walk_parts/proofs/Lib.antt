pub mod StringCode
pub mod WalkItems

pub mod BlockCode
pub mod StringCode

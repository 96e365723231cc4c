pub mod CutCode
pub mod StringCode

pub mod StringParts
pub mod BlockParts

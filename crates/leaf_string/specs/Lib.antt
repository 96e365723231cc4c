pub mod StringParts

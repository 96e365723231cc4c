pub mod StringCode

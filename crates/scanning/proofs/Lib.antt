pub mod ClassCode
pub mod Marked
pub mod RunCode
pub mod ScanCode

pub mod DigitParts
pub mod WordParts

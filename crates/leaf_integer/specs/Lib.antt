pub mod Digits
pub mod IntegerParts

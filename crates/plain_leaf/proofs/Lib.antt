pub mod IntegerCode
pub mod WordCode

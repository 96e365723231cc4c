pub mod IndicatorCode
pub mod NumberCode

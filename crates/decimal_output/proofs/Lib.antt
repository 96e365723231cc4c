pub mod DecimalCode

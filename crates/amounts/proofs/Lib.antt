pub mod AmountCode

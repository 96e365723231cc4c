pub mod PassCode
pub mod Laid

pub mod LiteralCode
pub mod StartCode
mod TokenCode

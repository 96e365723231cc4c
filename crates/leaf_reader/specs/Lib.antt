pub mod LiteralParts
pub mod Starts
pub mod TokenParts

pub mod LayCode
pub mod LeafCode

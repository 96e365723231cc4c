pub mod LeafCode

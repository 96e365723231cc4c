pub mod LeafKinds

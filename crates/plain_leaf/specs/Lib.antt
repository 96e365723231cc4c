pub mod LeafParts

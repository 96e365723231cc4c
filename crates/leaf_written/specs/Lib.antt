pub mod Laying
pub mod LeafTexts

pub mod WalkLeaves

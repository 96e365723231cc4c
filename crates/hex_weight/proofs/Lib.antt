pub mod WeightCode

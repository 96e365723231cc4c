pub mod ReadOutcomes

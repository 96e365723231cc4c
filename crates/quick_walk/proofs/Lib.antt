pub mod LeafRun
pub mod QuickWays

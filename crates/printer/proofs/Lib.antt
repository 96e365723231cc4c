pub mod PrintBounds
pub mod PrintSeveral
pub mod PrintCycle
pub mod PrintText
pub mod PrintWays

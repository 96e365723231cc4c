pub mod Machine
pub mod ReadItems
pub mod ReadContainers
pub mod ReadSeveral

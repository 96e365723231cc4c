pub mod Cuts
pub mod ReadRules
pub mod Wrote
pub mod ReadSmall
pub mod ReadTokens
pub mod ReadWriting
pub mod Telling

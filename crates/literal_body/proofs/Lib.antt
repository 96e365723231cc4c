pub mod LiteralCode
pub mod LiteralViews
pub mod ReadingCode
pub mod MatchCode

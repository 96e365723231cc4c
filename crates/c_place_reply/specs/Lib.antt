pub mod PlaceReplies

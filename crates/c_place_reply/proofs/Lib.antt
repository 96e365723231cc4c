pub mod PlaceReplying

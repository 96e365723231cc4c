pub mod Deciding
mod ReadOne

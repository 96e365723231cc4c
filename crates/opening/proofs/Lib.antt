pub mod Openers

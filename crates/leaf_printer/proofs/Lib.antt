pub mod PrintHeads

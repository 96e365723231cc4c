pub mod WordCode

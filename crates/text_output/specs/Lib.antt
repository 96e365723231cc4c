pub mod PrintParts

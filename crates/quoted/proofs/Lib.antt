pub mod QuotedPieces

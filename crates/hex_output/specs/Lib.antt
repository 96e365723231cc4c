pub mod HexLetters

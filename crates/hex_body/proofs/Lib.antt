pub mod HexCode

pub mod HexAnswers

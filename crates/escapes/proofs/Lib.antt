pub mod EscapeCode

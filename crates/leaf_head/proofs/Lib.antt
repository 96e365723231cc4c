pub mod HeadsCode

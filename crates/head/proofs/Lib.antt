pub mod HeadCode

pub mod BlankCode

pub mod PartCode

pub mod PointCode

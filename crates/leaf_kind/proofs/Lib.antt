pub mod KindCode

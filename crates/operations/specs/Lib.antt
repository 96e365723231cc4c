pub mod Operations
pub mod Demands
pub mod Examples
pub mod Programs

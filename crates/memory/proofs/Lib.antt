pub mod Buffer
pub mod Lists

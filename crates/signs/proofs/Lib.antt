pub mod SignCode

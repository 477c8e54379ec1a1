pub mod Cases
pub mod Stores
pub mod Unique

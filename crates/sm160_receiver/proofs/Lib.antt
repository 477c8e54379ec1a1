pub mod Steps
pub mod Order
pub mod Unique

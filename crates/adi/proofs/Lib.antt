pub mod Groups
pub mod Handed
pub mod Room
pub mod Order
pub mod Unique

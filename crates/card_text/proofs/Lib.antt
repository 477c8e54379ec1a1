pub mod Text
pub mod Line
pub mod Unique
pub mod Order

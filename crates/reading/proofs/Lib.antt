pub mod Answers
pub mod Masks
pub mod Search
pub mod Laws
pub mod Order
pub mod Unique

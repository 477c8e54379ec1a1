pub mod Round
pub mod Fitness
pub mod Answers
pub mod Order
pub mod Places
pub mod Unique

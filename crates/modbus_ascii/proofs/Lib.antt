pub mod Pairs
pub mod Steps
pub mod Answers
pub mod RoundTrip
pub mod Order
pub mod Unique

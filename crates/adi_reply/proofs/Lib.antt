pub mod Judging
pub mod Stores
pub mod Answers
pub mod Bytes
pub mod RoundTrip
pub mod Places
pub mod Order
pub mod Unique

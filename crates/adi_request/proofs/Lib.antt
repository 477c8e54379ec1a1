pub mod Chunks
pub mod Stores
pub mod Judging
pub mod Bytes
pub mod RoundTrip
pub mod Places
pub mod Order
pub mod Unique

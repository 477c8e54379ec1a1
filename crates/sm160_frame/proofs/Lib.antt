pub mod Flags
pub mod Stores
pub mod Limit
pub mod Bytes
pub mod Order
pub mod RoundTrip
pub mod Unique

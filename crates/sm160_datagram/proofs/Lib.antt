pub mod Stretches
pub mod Bytes
pub mod Stores
pub mod RoundTrip
pub mod Among
pub mod Order
pub mod Unique

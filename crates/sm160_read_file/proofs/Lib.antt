pub mod Texts
pub mod Stores
pub mod Order
pub mod RoundTrip
pub mod Unique

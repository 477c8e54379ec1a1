pub mod Form
pub mod RoundTrip
pub mod Moving
pub mod Moved
pub mod Unique
pub mod Order

pub mod Days
pub mod Places
pub mod Rising
pub mod Laws
pub mod Order
pub mod Edges
pub mod Unique

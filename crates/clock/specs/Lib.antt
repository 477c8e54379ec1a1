pub mod Seconds
pub mod Clock
pub mod Laws

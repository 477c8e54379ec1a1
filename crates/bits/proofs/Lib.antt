pub mod Bits
pub mod Fields
pub mod Cut
pub mod Read
pub mod Write
pub mod Unique

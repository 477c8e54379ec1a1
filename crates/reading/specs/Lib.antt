pub mod Reading
pub mod Mask
pub mod Values

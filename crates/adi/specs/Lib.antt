pub mod Groups
pub mod Head
pub mod Room
pub mod Descriptor

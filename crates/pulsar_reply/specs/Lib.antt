pub mod Layout
pub mod Fields
pub mod Reading
pub mod Writing
pub mod Heads

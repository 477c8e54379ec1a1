pub mod Floats
pub mod Kinds
pub mod Summary
pub mod Answer
pub mod Held
pub mod AddsUp
pub mod Promise
pub mod Numbers

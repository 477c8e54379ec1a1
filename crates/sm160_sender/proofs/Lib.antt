pub mod Parts
pub mod Answers
pub mod Whole
pub mod Order
pub mod Edges
pub mod Unique

pub mod Evidence
pub mod Edges

pub mod Fields
pub mod Body

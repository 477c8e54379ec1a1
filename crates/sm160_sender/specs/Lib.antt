pub mod Sending
pub mod Whole

pub mod Feeding
pub mod Calls
pub mod Arrival
pub mod Completion
pub mod OneFile
pub mod TwoCuts

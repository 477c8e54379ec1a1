pub mod Taking
pub mod Delivery
pub mod Completed
pub mod OneFile
pub mod ByCalls
pub mod TwoCuts
pub mod Sent

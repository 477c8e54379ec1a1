pub mod Answers
pub mod Laws
pub mod OnItsWay
pub mod Order
pub mod Unique

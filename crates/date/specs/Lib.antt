pub mod Months
pub mod Date

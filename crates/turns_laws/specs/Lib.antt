pub mod Fit
pub mod Course
pub mod Fairness
pub mod Held
pub mod Needed

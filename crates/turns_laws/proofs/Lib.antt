pub mod Fitness
pub mod Changes
pub mod Kept
pub mod Fair
pub mod Held
pub mod Made
pub mod Needed

pub mod Places
pub mod Positions
pub mod Walking
pub mod Reading

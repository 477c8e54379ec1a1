pub mod Layout
pub mod Laid
pub mod Reading
pub mod Moving

pub mod Archive

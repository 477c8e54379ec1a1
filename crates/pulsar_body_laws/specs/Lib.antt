pub mod Sized
pub mod RequestEdges
pub mod ReplyEdges

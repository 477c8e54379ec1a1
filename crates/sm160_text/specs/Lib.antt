pub mod Text
pub mod Position
pub mod Grammar
pub mod Line
pub mod Files
pub mod Layout
pub mod Walk
pub mod Reader

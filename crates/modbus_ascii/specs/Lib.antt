pub mod Hex
pub mod Ascii

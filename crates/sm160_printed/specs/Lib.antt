pub mod Printed
pub mod Edges

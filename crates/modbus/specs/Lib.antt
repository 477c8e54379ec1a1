pub mod Envelope
pub mod Promise
pub mod Rtu
pub mod Tcp
pub mod Printed

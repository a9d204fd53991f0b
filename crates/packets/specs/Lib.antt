pub mod Refusals
pub mod Header
pub mod Datagram
pub mod Facts

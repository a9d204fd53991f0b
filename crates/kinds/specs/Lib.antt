pub mod Strings
pub mod Ordered
pub mod Patterns
pub mod Parts
pub mod Packed
pub mod Bits

pub mod Prints
pub mod Splits
pub mod Streams
pub mod Texts

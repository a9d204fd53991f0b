pub mod Bests
pub mod Reading

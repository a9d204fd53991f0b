pub mod Prefixes
pub mod Shape
pub mod Search
pub mod Laws
pub mod Worked

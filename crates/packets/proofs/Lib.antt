pub mod Sums
pub mod Order
pub mod Changes

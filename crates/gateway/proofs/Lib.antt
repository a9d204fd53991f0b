pub mod Whole
pub mod Standing
pub mod Installing
pub mod Assured
pub mod Reached

pub mod Found
pub mod Adding
pub mod Withdrawing
pub mod Means
pub mod Loading

pub mod Kinds
pub mod Faults
pub mod Calls
pub mod History
pub mod Assurance
pub mod Decisions

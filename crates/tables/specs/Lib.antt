pub mod Bytes
pub mod Faults
pub mod Directives
pub mod Format
pub mod Verdict
pub mod Memory
pub mod Laws
pub mod Turn

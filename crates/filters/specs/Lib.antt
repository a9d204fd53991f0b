pub mod Rules
pub mod Orders
pub mod Directives
pub mod Meaning
pub mod Refusals

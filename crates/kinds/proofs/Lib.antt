pub mod Fields
pub mod Prefixes
mod Fronts
mod Cuts

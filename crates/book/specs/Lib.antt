pub mod Labels
pub mod Books
pub mod Loads

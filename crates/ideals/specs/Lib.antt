pub mod Labels
pub mod Ranges
pub mod Views

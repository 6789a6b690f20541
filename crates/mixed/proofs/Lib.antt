pub mod Labels
pub mod Meeting

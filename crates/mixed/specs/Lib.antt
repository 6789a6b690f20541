pub mod Meeting
pub mod Generals
pub mod Complexes
pub mod Whole
pub mod Labels
pub mod Views
pub mod Equality

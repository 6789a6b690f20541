pub mod First
pub mod Labels

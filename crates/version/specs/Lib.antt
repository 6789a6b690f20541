pub mod Parts
pub mod Grammar
pub mod Reading
pub mod Numbers
pub mod Labels

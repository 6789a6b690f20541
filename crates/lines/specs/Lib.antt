pub mod Hex
pub mod Line
pub mod Number
pub mod Shown
pub mod Split

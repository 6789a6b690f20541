pub mod Bytes
pub mod Grammar
pub mod Reading
pub mod Whole
pub mod Answers
pub mod Places

pub mod Replies
pub mod Written

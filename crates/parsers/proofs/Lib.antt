pub mod Joining
pub mod Parts
pub mod Ends
pub mod Stretches
pub mod Numbers
pub mod Lists
pub mod Answering

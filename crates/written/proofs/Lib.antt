pub mod Joining
pub mod Listing

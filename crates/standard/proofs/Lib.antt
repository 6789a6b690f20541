pub mod Listing
pub mod Stricts
pub mod Precedences
pub mod Combined
pub mod Productions
pub mod Readings
pub mod Agreements
pub mod Chains

pub mod Sorting
pub mod Complexes
pub mod Agreeing
pub mod Scanning
pub mod Chunks
pub mod Filling
pub mod Ring
pub mod Handing

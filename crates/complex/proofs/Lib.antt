pub mod Handing
pub mod Fronts

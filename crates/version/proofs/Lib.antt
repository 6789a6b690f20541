pub mod Lasts
pub mod Generals
pub mod Fronts
pub mod Places

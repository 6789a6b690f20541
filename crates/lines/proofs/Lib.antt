pub mod Hexes
pub mod Numbers
pub mod Shows
pub mod Splits

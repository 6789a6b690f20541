pub mod Order
pub mod Views
pub mod Fronts

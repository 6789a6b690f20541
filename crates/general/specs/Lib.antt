pub mod Laws
pub mod Lasts
pub mod Order
pub mod Views

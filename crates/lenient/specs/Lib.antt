pub mod Number
pub mod Order
pub mod Said

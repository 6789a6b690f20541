pub mod Parts
pub mod Grammar
pub mod Precedence
pub mod Reading
pub mod Order
pub mod Theorems
pub mod Chain

pub mod Convert
pub mod Said

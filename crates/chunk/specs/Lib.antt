pub mod Grammar
pub mod Piece
pub mod Reading
pub mod Semver
pub mod Said
pub mod Tables

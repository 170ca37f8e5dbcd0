pub mod Behind
pub mod Rows
pub mod Loaded
pub mod Sextets

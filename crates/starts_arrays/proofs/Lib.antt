pub mod Arrays
pub mod Called

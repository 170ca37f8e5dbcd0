pub mod Turned
pub mod Alike
pub mod Tags
pub mod Outcomes
pub mod Same
pub mod Arrays
pub mod SameC

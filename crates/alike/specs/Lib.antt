pub mod Alike
pub mod Same
pub mod SameArrays

pub mod Standing
pub mod Theorems
pub mod Reached
pub mod Called

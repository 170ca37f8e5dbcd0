pub mod Runs
pub mod Theorems
pub mod Cuttings
pub mod Called
pub mod Strict

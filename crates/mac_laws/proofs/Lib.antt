pub mod Runs
pub mod Theorems
pub mod Once
pub mod Counts
pub mod Strict
pub mod Called
pub mod Cuttings

pub mod Outcome
pub mod Runs
pub mod Inner

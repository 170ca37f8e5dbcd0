pub mod Inner
pub mod Modes
pub mod Once
pub mod Outcome

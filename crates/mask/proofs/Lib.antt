pub mod Clear
pub mod Outcomes
pub mod Once
pub mod Tight

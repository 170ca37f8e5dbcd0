pub mod Accepted
pub mod Outcomes
pub mod Strict
pub mod Tight

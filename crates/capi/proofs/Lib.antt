mod Indices
pub mod Refusals
pub mod Tight

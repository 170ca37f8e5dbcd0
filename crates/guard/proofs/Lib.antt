pub mod Tables
mod Stepping
mod Histories
pub mod Theorems
pub mod Tight
pub mod Called

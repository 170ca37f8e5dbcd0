pub mod Starts
pub mod Draws
pub mod Runs

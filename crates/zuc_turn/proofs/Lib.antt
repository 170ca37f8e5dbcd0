pub mod ByHalves
pub mod Runs
pub mod Turned

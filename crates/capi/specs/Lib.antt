pub mod Generators
pub mod Tags
pub mod Runs
pub mod Frames

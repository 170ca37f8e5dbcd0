pub mod Formed
pub mod Putting

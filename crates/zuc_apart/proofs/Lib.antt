pub mod Mixing
pub mod Registers
pub mod Feedback
pub mod Steps
pub mod Vectors
pub mod Apart

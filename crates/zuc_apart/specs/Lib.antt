pub mod Rotations
pub mod Given

pub mod Moves
pub mod Ahead

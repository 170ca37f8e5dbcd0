pub mod Starts
pub mod Draws
pub mod NoWord
pub mod OneShots
pub mod TwoUpdates
pub mod SameLimit
pub mod TwoFills

pub mod Joined
pub mod Fits
pub mod Parts
pub mod Told
pub mod Writing
pub mod Reading
pub mod TwoCalls
pub mod Called

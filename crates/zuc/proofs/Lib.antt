pub mod Drawing
pub mod Linear
pub mod Modulo
pub mod Taps
pub mod Turning

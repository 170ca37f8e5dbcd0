pub mod Message
pub mod Cutting
pub mod Lookup
pub mod Widths
pub mod Packed
pub mod Fresh
pub mod AtRest

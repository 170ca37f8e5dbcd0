pub mod Body
pub mod Sealed
pub mod Order
pub mod Passed
pub mod Laid
pub mod Tight

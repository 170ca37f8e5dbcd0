mod Starting
pub mod Tight
pub mod Words
pub mod Strict
pub mod Called

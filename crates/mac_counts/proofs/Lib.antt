pub mod Units
pub mod InTurn
pub mod Drawn

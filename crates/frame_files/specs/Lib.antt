pub mod Decimal
pub mod Stream

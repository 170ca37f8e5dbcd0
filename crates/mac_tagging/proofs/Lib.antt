pub mod Followed
pub mod Rule
pub mod Starts
pub mod Bytes
pub mod Last
pub mod Ends
pub mod Laid

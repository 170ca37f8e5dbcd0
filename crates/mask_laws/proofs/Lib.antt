pub mod Accepted
pub mod EEA3
pub mod OneCall
pub mod Blocks
pub mod Before
pub mod Hops

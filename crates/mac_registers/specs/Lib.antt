pub mod Tagging
pub mod Stored
pub mod Inner
pub mod InnerLookup
pub mod InnerBlocks
pub mod InnerOpen

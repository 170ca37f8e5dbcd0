pub mod InnerWhole

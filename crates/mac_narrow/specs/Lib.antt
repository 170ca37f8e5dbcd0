pub mod InnerNarrow

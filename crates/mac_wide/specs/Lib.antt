pub mod InnerRows

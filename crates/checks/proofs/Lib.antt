-- Laws of rows 1 to 5, and their examples.
pub mod Rows
pub mod Examples

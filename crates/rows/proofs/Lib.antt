-- What is computed over the stored rows.
pub mod RowTests
pub mod Means
pub mod Rules

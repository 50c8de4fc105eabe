-- The crate's root: the text of an input from its first bytes.
pub mod Promises

-- The crate's root: numbers as text, and what it means that bytes are stored.
pub mod Decimal
pub mod Storing

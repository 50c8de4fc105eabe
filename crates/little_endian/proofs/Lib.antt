-- Laws of numbers, of signed numbers and of arrays in bytes.
pub mod NumberLaws
pub mod SignedLaws
pub mod ArrayLaws

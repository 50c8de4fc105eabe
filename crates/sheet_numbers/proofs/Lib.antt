-- An answer as numbers.
pub mod Answers

-- What the loops over the figures ask.
pub mod Promises

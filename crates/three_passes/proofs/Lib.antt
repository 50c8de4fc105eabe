-- Laws of the three passes.
pub mod Correcting
pub mod Passes

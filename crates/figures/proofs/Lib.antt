-- Laws of the loops over the figures.
pub mod Loops

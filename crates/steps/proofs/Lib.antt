-- Laws of a pass, by its choices.
pub mod Sound
pub mod Shared
pub mod Lengths
pub mod ByMonth
pub mod Largest
pub mod Distances

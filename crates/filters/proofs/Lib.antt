-- Laws of the filters; Sides shows that no place is short on both sides.
pub mod Sides
pub mod Light
pub mod Distances
pub mod WeightedMeans
pub mod Largest
pub mod Lengths
pub mod ByMonth
pub mod Window
pub mod Stretches
pub mod Stored
pub mod ShortRuns

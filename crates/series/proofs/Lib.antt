-- Laws of what the steps do with series: how long, how large, how far; and of sums of changes.
pub mod Lengths
pub mod Largest
pub mod Distances
pub mod ChangeLaws

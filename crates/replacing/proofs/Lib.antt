-- Laws of replaced values and of the walks of the code, and the worked examples.
pub mod ReplacedLaws
pub mod WalkLaws
pub mod Choosing
pub mod NeighbourLaws
pub mod Examples

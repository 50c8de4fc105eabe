-- What the definitions of this repository stand on: lists by place, sizes, sums, the roundings and the root. Filling and Promises have what
-- contracts of the code say. The laws of all these are in proofs/.
pub mod Sizes
pub mod Lists
pub mod Sums
pub mod Filling
pub mod Rounding
pub mod Root
pub mod Promises

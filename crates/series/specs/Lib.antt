-- Series by month: differences, multiples, picked months and sums of changes, and how far a series is from an exact one.
pub mod Operations
pub mod Distance
pub mod Promises

-- Laws of the tables: how long, how large, how near to their exact working; that no weighing empties a group and no weight is above 1,000.
pub mod Sizes
pub mod Weighings
pub mod Nearness
pub mod Examples

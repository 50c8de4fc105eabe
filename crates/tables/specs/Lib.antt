-- METHOD 1.5, 3.8, 4, 5.8 and 6: what pass B replaces, the tables, that no weighing empties a group and no weight is above 1,000, the exact working of
-- the results, how near the two are, and worked examples. Bounds has how large the tables can be.
pub mod PassB
pub mod Tables
pub mod Weighings
pub mod Exact
pub mod Nearness
pub mod Bounds
pub mod Examples

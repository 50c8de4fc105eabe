-- Sums and differences are exact (Exact); which doubles count (Counting).
pub mod Exact
pub mod Counting

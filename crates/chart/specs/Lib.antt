-- METHOD 7.6 and 7.9: month order (Chart), and that it loses nothing (Rearranging). Promises has what the code asks.
pub mod Chart
pub mod Rearranging
pub mod Promises

-- METHOD 3, 6.1 and 6.3: what a pass may choose, the steps, their exact working, and how near the two are.
pub mod Choices
pub mod Places
pub mod Steps
pub mod ByMonth
pub mod Exact
pub mod Near

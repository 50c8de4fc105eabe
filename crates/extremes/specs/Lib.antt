-- METHOD 5: years and groups, spreads, weights (none above 1,000) and corrections, and that no group is emptied. Promises has what the functions ask, and what `weights`
-- promises.
pub mod Years
pub mod Spreads
pub mod Weighing
pub mod NoGroupEmptied
pub mod Promises

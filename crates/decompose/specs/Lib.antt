-- METHOD 8 and 10: what decomposing promises.
pub mod Promise

-- METHOD 3.9: extreme values replaced by means of their neighbours. Examples has those of METHOD, Promises what the code asks of its arguments.
pub mod Neighbours
pub mod Replaced
pub mod Examples
pub mod Promises

-- METHOD 4.5: the length of the final trend's filter. Promises has what the code asks.
pub mod TrendLength
pub mod Promises

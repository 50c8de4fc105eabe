-- METHOD 4.6: which seasonal filter pass D takes. Promises has what the code asks.
pub mod SeasonalChoice
pub mod Promises

-- METHOD 7.10, 7.11 and 7.13: doubles in bytes, those that count, and the whole numbers that they are (Doubles); that their sums and
-- differences are exact (Laws). Promises has what the code answers.
pub mod Doubles
pub mod Laws
pub mod Promises

-- METHOD 9: the lines that are printed, and the slices of which they are made.
pub mod Text
pub mod Lent

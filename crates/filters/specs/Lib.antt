-- METHOD 2: one filter for every table of rows, and that no place is short on both sides. Promises has what the code asks of its arguments.
pub mod Filter
pub mod Sides
pub mod Promises

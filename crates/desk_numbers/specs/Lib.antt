-- METHOD 8.5: the answers of reading, writing and moving as numbers (DeskNumbers). Promises has what the function inside promises.
pub mod DeskNumbers
pub mod Promises

-- METHOD 8.5: the answer of reading a members' sheet as numbers (SheetNumbers).
pub mod SheetNumbers

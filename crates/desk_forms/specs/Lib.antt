-- METHOD 7: the header (Header), the plain desk file (File) and that by calendar month (ColumnsFile), and what a slice holds after an answer (After).
-- Forms has both side by side, for the code.
pub mod Header
pub mod File
pub mod ColumnsFile
pub mod After
pub mod Forms

-- METHOD 7.10 to 7.13 and 8.1: the cells of a members' sheet (Cells) and their checks (CellChecks). Promises has what the functions ask and find.
pub mod Cells
pub mod CellChecks
pub mod Promises

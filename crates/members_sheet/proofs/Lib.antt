-- The checks of all cells (CheckingLaws), the total revision (Sums), the answer (Answers), the theorems of METHOD 7.14 (SheetTrip), the examples.
pub mod CheckingLaws
pub mod Sums
pub mod Answers
pub mod SheetTrip
pub mod Examples

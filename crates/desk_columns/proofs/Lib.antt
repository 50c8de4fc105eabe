-- Laws of the four answers (Answers), the theorems on the desk file by calendar month, and the examples.
pub mod Answers
pub mod ColumnsTrip
pub mod Examples

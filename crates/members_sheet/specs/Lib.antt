-- METHOD 7.12 to 7.14, reading a members' sheet: the series and the total revision that it means (Series), what reading it promises (ReadSheet), the
-- theorems on it (SheetTheorems), and examples of what it answers (Examples). Promises has what the functions inside ask and find.
-- The cells: crate `sheet_cells`.
pub mod Series
pub mod ReadSheet
pub mod SheetTheorems
pub mod Examples
pub mod AllAccepted
pub mod Promises

-- METHOD 7.7 to 7.9, the desk file by calendar month: what reading and writing it promise (ReadColumns, WriteColumns), what moving promises (Moving),
-- the theorems on them together (ColumnsTrips), and examples (Examples).
pub mod ReadColumns
pub mod WriteColumns
pub mod Moving
pub mod ColumnsTrips
pub mod Examples

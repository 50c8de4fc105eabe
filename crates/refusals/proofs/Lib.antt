-- Laws of the limits, of the first bad element, of checks in their order and of the numbers of the sheet.
pub mod InsideLaws
pub mod FirstLaws
pub mod CheckLaws
pub mod RowNumbers

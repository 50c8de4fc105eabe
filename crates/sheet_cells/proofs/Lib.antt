-- Cells by their kinds, and their checks (CellLaws).
pub mod CellLaws

-- A filter's table as it is stored, and what the code that reads it asks of it. Nothing here is promised to a caller of the desk.
use Rattle.std.specs.Prelude.{ℕ, ◌+◌, ◌*◌, ◌≤◌, length}
use Rattle.integers.specs.Sums.{norm}
use Rattle.refusals.specs.Limits.{months_of_year}
use Rattle.rows.specs.Table.{Table, row_for, row_weight, denominator}

-- the sizes of a row's weights sum to no more thousandths of its denominator: the ends of Henderson's 23 terms have 1,435,530 millionths
abbrev pub largest_norm : ℕ
largest_norm = 1_440

-- the largest denominator of a row: millionths
abbrev pub largest_over : ℕ
largest_over = 1_000_000

-- rows take so many values on each side at most, so far apart, and are so wide; the rows for one value more before stand so many rows on
abbrev pub most_side : ℕ
most_side = 15

abbrev pub most_step : ℕ
most_step = months_of_year

abbrev pub most_width : ℕ
most_width = 2 * most_side + 1

abbrev pub most_row_step : ℕ
most_row_step = most_side + 1

-- rows that can be read
pub record Readable (F : Table) : Type 0 where
  pub side_least : 1 ≤ F.side
  pub side_most : F.side ≤ most_side
  pub row_step_most : F.row_step ≤ most_row_step
  pub step_least : 1 ≤ F.step
  pub step_most : F.step ≤ most_step
  pub width_most : F.width ≤ most_width
  pub rows_long : (F.side * F.row_step + F.side) * F.width + (2 * F.side + 1) ≤ length F.rows
  pub light : (b a : ℕ) → b ≤ F.side → a ≤ F.side → norm (b + 1 + a) (row_weight F (row_for F b a)) * 1000 ≤ largest_norm * denominator F (row_for F b a)
  pub middle_least : 1 ≤ F.middle
  pub ends_least : 1 ≤ F.ends
  pub middle_most : F.middle ≤ largest_over
  pub ends_most : F.ends ≤ largest_over

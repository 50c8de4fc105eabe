-- METHOD 2.1: the rows of a filter, as a table.
use Rattle.std.specs.Prelude.{cond, List, ℕ, ◌+◌, ◌*◌, ◌-◌, eqb, ℤ}
use Rattle.integers.specs.Lists.{◌‼◌, tab}

-- A table has rows of weights for values `step` months apart: 1 along the series, 12 along a month's run, the values of one calendar month, oldest
-- first. Its rows stand one after the other, each `width` places long, and a row's first weight is for its oldest value. A row takes at most `side`
-- values on each side of the present one. The rows for one value more before stand `row_step` rows on. With a row_step of side + 1 each pair of counts
-- has its own row. With a row_step of 1 no place may be short on both sides: row b (less than `side`) serves a place with b values before it, row
-- `side` one with `side` values on each side, row 2 side - a one with a values after it. `middle` is the denominator of the row for `side` values on
-- each side, the middle row, `ends` that of the others. (Width 0 is one row for all places: such a table serves no place near an end.)
pub record Table : Type 0 where
  pub side : ℕ
  pub row_step : ℕ
  pub step : ℕ
  pub width : ℕ
  pub rows : List ℤ
  pub middle : ℕ
  pub ends : ℕ

-- METHOD 2.1: the row for b values before the present one and a after it, each at most `side`; the middle row; and how many rows there are
unfoldable pub row_for : Table → ℕ → ℕ → ℕ
row_for F b a = b * F.row_step + (F.side - a)

unfoldable pub middle_row : Table → ℕ
middle_row F = F.side * F.row_step

unfoldable pub row_count : Table → ℕ
row_count F = F.side * F.row_step + F.side + 1

-- weight k of row r, and the row's denominator
unfoldable pub row_weight : Table → ℕ → ℕ → ℤ
row_weight F r k = F.rows ‼ (r * F.width + k)

unfoldable pub denominator : Table → ℕ → ℕ
denominator F r = cond (eqb r (middle_row F)) F.middle F.ends

-- the weights of the middle row
abbrev pub middle_weights : Table → List ℤ
middle_weights F = tab F.width (row_weight F (middle_row F))

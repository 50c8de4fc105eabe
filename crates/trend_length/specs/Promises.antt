-- What the choice of a length asks of its arguments. Nothing here is promised to a caller of the desk.
use Rattle.std.specs.Prelude.{List, ℕ, ◌+◌, ◌*◌, ◌≤◌, length, ℤ}
use Rattle.integers.specs.Lists.{AllWithin}
use Rattle.refusals.specs.Limits.{most_months}
use Rattle.series.specs.Promises.{widest}

-- a table with a month or more in t from h to n - 1 - h
pub record Measurable (h : ℕ) (x : List ℤ) : Type 0 where
  pub long : 2 * h + 1 ≤ length x
  pub short : length x ≤ most_months
  pub small : AllWithin widest x

-- What the code of the filters asks of its arguments, and leaves. Nothing here is promised to a caller of the desk.
use Rattle.std.specs.Prelude.{List, ℕ, ◌+◌, ◌*◌, ◌≤◌, ◌<◌, length, ℤ, pos}
use Rattle.integers.specs.Sizes.{◌within◌}
use Rattle.integers.specs.Lists.{◌‼◌, AllWithin}
use Rattle.integers.specs.Filling.{Filled}
use Rattle.integers.specs.Sums.{norm}
use Rattle.refusals.specs.Limits.{most_months}
use Rattle.rows.specs.Table.{Table}
use Rattle.rows.specs.declared.StoredTable.{StoredTable}
use Rattle.rows.specs.Stored.{largest_norm, largest_over}
use Rattle.filters.specs.Filter.{value_at}

-- no number that is filtered is larger; times the largest norm it is a quotient that can be rounded
abbrev pub largest : ℕ
largest = 1_700_000_000_000

-- a stored table, as the rules have tables
abbrev pub table_of : StoredTable → Table
table_of f = record { side = f.side; row_step = f.row_step; step = f.step; width = f.width; rows = f.rows.now; middle = f.middle; ends = f.ends }

-- weights, and the values that they meet
pub record Dots (w x : List ℤ) (from step : ℕ) : Type 0 where
  pub light : norm (length w) (λ k. w ‼ k) * 1000 ≤ largest_norm * largest_over
  pub places : (k : ℕ) → k < length w → from + k * step < length x
  pub small : (k : ℕ) → k < length w → (x ‼ (from + k * step)) within largest

-- a series that can be filtered
pub record Filterable (x : List ℤ) : Type 0 where
  pub short : length x ≤ most_months
  pub small : AllWithin largest x

-- a slice whose months from `first` to below `past` can be filtered; what stands outside these is not looked at
pub record FilterableMonths (first past : ℕ) (x : List ℤ) : Type 0 where
  pub short : length x ≤ most_months
  pub inside : past ≤ length x
  pub small : (t : ℕ) → first ≤ t → t < past → (x ‼ t) within largest

-- place t has b values before it and a after it, no more than a row takes, and nothing from the first of these places to the last is too large
pub record Served (F : Table) (b a t : ℕ) (x : List ℤ) : Type 0 where
  pub few_before : b ≤ F.side
  pub few_after : a ≤ F.side
  pub before : b * F.step ≤ t
  pub after : t + a * F.step < length x
  pub small : (i : ℕ) → t ≤ i + b * F.step → i ≤ t + a * F.step → (x ‼ i) within largest

-- so has each place from lo to below hi
pub record Serves (F : Table) (b a lo hi : ℕ) (x : List ℤ) : Type 0 where
  pub order : lo ≤ hi
  pub few_before : b ≤ F.side
  pub few_after : a ≤ F.side
  pub before : b * F.step ≤ lo
  pub after : hi + a * F.step ≤ length x
  pub small : (i : ℕ) → lo ≤ i + b * F.step → i < hi + a * F.step → (x ‼ i) within largest

-- the rows F can filter the months from `first` to below `past` of a slice, in turn: these are enough for them
pub record CanFilter (F : Table) (first past : ℕ) (x : List ℤ) : Type 0 where
  pub enough : first + 2 * (F.side * F.step) ≤ past
  pub filterable : FilterableMonths first past x

-- METHOD 2.1 and 2.3: what the filter by the rows F leaves of values at the months from `first` to below `past` of x: in `new` at each of these months
-- its value there, and every other entry as it was in `old`. With the rows of a seasonal filter that is the month-run step
abbrev pub FilteredMonths : Table → ℕ → ℕ → List ℤ → List ℤ → List ℤ → Type 0
FilteredMonths F first past x old new = Filled (pos 0) (value_at F first past x) first past old new

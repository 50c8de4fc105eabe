-- What the code of a pass asks of its arguments, h being half a year, and leaves. Nothing here is promised to a caller of the desk.
use Rattle.std.specs.Prelude.{◌≡◌, List, ℕ, ◌+◌, ◌*◌, ◌-◌, ◌≤◌, ◌<◌, length, ℤ, ◌-ℤ◌}
use Rattle.integers.specs.Sizes.{◌within◌}
use Rattle.integers.specs.Lists.{◌‼◌, AllWithin}
use Rattle.rows.specs.Table.{Table}
use Rattle.filters.specs.Filter.{value_at, inside}
use Rattle.filters.specs.Promises.{largest, Filterable, FilterableMonths}
use Rattle.series.specs.Promises.{Minusable}
use Rattle.series.specs.Operations.{minus, pick}
use Rattle.refusals.specs.Limits.{most_months}
use Rattle.rows.specs.declared.SeasonalFilter.{SeasonalFilter}
use Rattle.steps.specs.Choices.{plain_by}
use Rattle.steps.specs.Places.{nearest_month, nearest_level}
use Rattle.steps.specs.Steps.{T2, S2}

-- no number of X is larger, in grains, and none of its T2: six and a half times as large
abbrev pub largest_x : ℕ
largest_x = 110_000_000_000

abbrev pub largest_t2 : ℕ
largest_t2 = 715_000_000_000

-- a series that a pass takes: six years at least
pub record PassSeries (h : ℕ) (x : List ℤ) : Type 0 where
  pub long : 12 * h ≤ length x
  pub short : length x ≤ most_months
  pub small : AllWithin largest_x x

-- work slices and a slice for the result, as long as the series
pub record Work (x a b out : List ℤ) : Type 0 where
  pub a_long : length a ≡ length x
  pub b_long : length b ≡ length x
  pub out_long : length out ≡ length x

-- a stretch of months from lo to below hi, and the month of another slice that each goes with: month i for lo, and `step` months more for each
-- further one
unfoldable pub along : ℕ → ℕ → ℕ → ℕ → ℕ
along i step lo t = i + step * (t - lo)

-- such a stretch of r, and the months of m that are subtracted from it
pub record LessAlong (i step lo hi : ℕ) (r m : List ℤ) : Type 0 where
  pub order : lo ≤ hi
  pub inside : hi ≤ length r
  pub short : length r ≤ most_months
  pub same : length m ≡ length r
  pub each : (t : ℕ) → lo ≤ t → t < hi → along i step lo t < length m
  pub left : (t : ℕ) → lo ≤ t → t < hi → (r ‼ t) within largest
  pub right : (t : ℕ) → lo ≤ t → t < hi → (m ‼ along i step lo t) within largest

-- r with values at the months from `first` to below `past`, and in m their 2×12, at the months with h on each side
pub record Levels (h first past : ℕ) (r m : List ℤ) : Type 0 where
  pub long : first + (2 * h + 1) ≤ past
  pub inside : past ≤ length r
  pub short : length r ≤ most_months
  pub same : length m ≡ length r
  pub left : (t : ℕ) → first ≤ t → t < past → (r ‼ t) within largest
  pub right : (t : ℕ) → first + h ≤ t → t < past - h → (m ‼ t) within largest

-- month t of r less its level: the 2×12 of r, by the rows F, with the first and the last value repeated at the ends
unfoldable pub without_level_at : ℕ → Table → ℕ → ℕ → List ℤ → ℕ → ℤ
without_level_at h F first past r t = (r ‼ t) -ℤ value_at F first past r (nearest_month h first past t)

-- the same of a list, whose place 0 is the first of these months
abbrev pub without_level : ℕ → Table → List ℤ → List ℤ
without_level h F r = minus r (pick (length r) (nearest_level h (length r)) (inside F r))

-- SI1 as it is filtered, at its own months in a slice of six years at least, and the slices for its seasonal
pub record OfSI1 (h : ℕ) (si r m out : List ℤ) : Type 0 where
  pub filterable : FilterableMonths h (length si - h) si
  pub long : 12 * h ≤ length si
  pub r_long : length r ≡ length si
  pub m_long : length m ≡ length si
  pub out_long : length out ≡ length si

-- SI2 as it is filtered, six years at least, and the slices for its seasonal
pub record OfSI2 (h : ℕ) (si r out : List ℤ) : Type 0 where
  pub filterable : Filterable si
  pub long : 12 * h ≤ length si
  pub r_long : length r ≡ length si
  pub out_long : length out ≡ length si

-- a series and a seasonal, and what is left of the series without it; long enough for the ends of Henderson's 23 terms
pub record Adjustable (x s : List ℤ) : Type 0 where
  pub long : 22 ≤ length x
  pub both : Minusable x s
  pub less : AllWithin largest (minus x s)

-- what a pass with the filter f in step 6 leaves: T2 and S2 of x
pub record PassDone (f : SeasonalFilter) (x t s : List ℤ) : Type 0 where
  pub trend : t ≡ T2 (plain_by f) x
  pub seasonal : s ≡ S2 (plain_by f) x

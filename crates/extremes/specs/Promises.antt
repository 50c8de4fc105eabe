-- What the functions ask of their arguments, and what `weights` promises the crate above. Nothing here is promised to a caller of the desk.
use Rattle.std.specs.Prelude.{ℕ, ◌+◌, ◌*◌, ◌≤◌, ◌<◌, ◌≡◌, cond, List, [], ◌∷◌, map, leb, ltb, length, get_or, ℤ, pos, nat_abs}
use Rattle.integers.specs.Lists.{◌‼◌, tab, AllWithin}
use Rattle.refusals.specs.Limits.{most_months}
use Rattle.extremes.specs.Years.{year_start, months}
use Rattle.extremes.specs.Spreads.{sizes_of, squares}
use Rattle.extremes.specs.Weighing.{weights_of}

-- the largest irregular, in grains, and the largest size, in units: 64 bits hold the squares of 600 such sizes
abbrev pub largest_irregular : ℕ
largest_irregular = 110_000_000_000

abbrev pub largest_size : ℕ
largest_size = 110_000_000

-- ---- years
-- five times `period` months or more, 600 at most, from a start month, so that some year has two before it and two after. Nothing more is asked of the
-- period
pub record Calendar (start period n : ℕ) : Type 0 where
  pub least : 5 * period ≤ n
  pub most : n ≤ most_months
  pub early : 1 ≤ start
  pub late : start ≤ period

-- the first of n months that the group of year c serves; the groups are those of years 2 to `last`, the third year from the end. n where c is
-- past that
unfoldable pub served_from : ℕ → ℕ → ℕ → ℕ → ℕ → ℕ
served_from start period n last c = cond (leb c 2) 0 (cond (ltb last c) n (year_start start period n c))

-- ---- sizes and running sums
-- running sums: of each month, the sum of the squares of the sizes up to it, its own included
unfoldable pub running_squares : List ℕ → List ℕ
running_squares sizes = tab (length sizes) (λ t. squares (months 0 (t + 1) sizes))

-- no number of the list is above b
pub record AllBelow (b : ℕ) (l : List ℕ) : Type 0 where
  pub at : (t : ℕ) → get_or l t 0 ≤ b

-- no number of a slice is negative
pub record Whole (work : List ℤ) : Type 0 where
  pub at : (t : ℕ) → work ‼ t ≡ pos (nat_abs (work ‼ t))

-- ---- dropping
-- the months that dropping takes away
unfoldable pub dropped : ℕ → List ℕ → List ℕ
dropped limit [] = []
dropped limit (a ∷ g) = cond (ltb limit (2 * a)) (a ∷ dropped limit g) (dropped limit g)

-- of the months from t to below hi, r is the first to be dropped; hi where none is
pub record NextAbove (limit t hi : ℕ) (sizes : List ℕ) (r : ℕ) : Type 0 where
  pub order : t ≤ r
  pub inside : r ≤ hi
  pub none : dropped limit (months t hi sizes) ≡ dropped limit (months r hi sizes)
  pub above : r < hi → limit < 2 * get_or sizes r 0

-- ---- weights
-- what `weights` asks
pub record Weighable (start period : ℕ) (x work running : List ℤ) (out : List ℕ) : Type 0 where
  pub calendar : Calendar start period (length x)
  pub small : AllWithin largest_irregular x
  pub sizes : length work ≡ length x
  pub sums : length running ≡ length x
  pub weights : length out ≡ length x

-- what it leaves: the sizes, their running sums and the weights
pub record Outcome (start period : ℕ) (x work running : List ℤ) (out : List ℕ) : Type 0 where
  pub sizes : work ≡ map pos (sizes_of x)
  pub sums : running ≡ map pos (running_squares (sizes_of x))
  pub weights : out ≡ weights_of start period x

-- What the functions ask of their arguments, and figures that can be worked, for the crates above. Nothing here is promised to a caller of the desk.
use Rattle.std.specs.Prelude.{◌≡◌, List, ℕ, ◌*◌, ◌≤◌, length, sum_by, ℤ, nat_abs, ◌-ℤ◌}
use Rattle.std.specs.List.{zip}
use Rattle.integers.specs.Lists.{AllWithin}
use Rattle.refusals.specs.Limits.{least_months, most_months, months_of_year, largest_figure}

-- no number on either side of a difference is larger: the final trend is the largest, at most 1.44 times what is filtered (filters, Promises)
abbrev pub widest : ℕ
widest = 2_500_000_000_000

-- both slices of a difference
pub record Minusable (x y : List ℤ) : Type 0 where
  pub short : length x ≤ most_months
  pub long : length y ≡ length x
  pub left : AllWithin widest x
  pub right : AllWithin widest y

-- a series and the changes into its months from `first` to below `hi`
pub record Changing (x : List ℤ) (span first hi : ℕ) : Type 0 where
  pub short : length x ≤ most_months
  pub small : AllWithin widest x
  pub back : span ≤ first
  pub order : first ≤ hi
  pub inside : hi ≤ length x

-- the sum of the sizes of the differences of two lists, month by month
abbrev pub distance : List ℤ → List ℤ → ℕ
distance x y = sum_by (λ p. nat_abs (p.0 -ℤ p.1)) (zip x y)

-- no sum of changes is larger
abbrev pub most_change : ℕ
most_change = most_months * (2 * widest)

-- figures within the limits, of a series that is not too long
pub record Figures (figures : List ℤ) : Type 0 where
  pub short : length figures ≤ most_months
  pub small : AllWithin largest_figure figures

-- such figures, 72 or more, and a start month from 1 to 12
pub record Workable (start : ℕ) (f : List ℤ) : Type 0 where
  pub figures : Figures f
  pub long : least_months ≤ length f
  pub early : 1 ≤ start
  pub late : start ≤ months_of_year

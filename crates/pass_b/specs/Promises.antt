-- What the code of pass B asks of its arguments, and leaves. Nothing here is promised to a caller of the desk.
use Rattle.std.specs.Prelude.{◌≡◌, List, ℕ, ◌+◌, ◌≤◌, length, ℤ}
use Rattle.integers.specs.Lists.{AllWithin}
use Rattle.refusals.specs.Limits.{least_months, most_months, months_of_year}
use Rattle.extremes.specs.Promises.{Calendar}
use Rattle.replacing.specs.Replaced.{replaced_by}
use Rattle.steps.specs.Steps.{SI2, T2, S2}
use Rattle.tables.specs.PassB.{weights_b9, choices_b4, choices_b}
use Rattle.tables.specs.Bounds.{largest_b1, largest_b7}

-- a series that pass B takes: of so many months, no larger than B1 can be, from a start month
pub record PassBSeries (start : ℕ) (x : List ℤ) : Type 0 where
  pub long : least_months ≤ length x
  pub short : length x ≤ most_months
  pub small : AllWithin largest_b1 x
  pub early : 1 ≤ start
  pub late : start ≤ months_of_year

-- the slices of pass B, of n months
pub record PassBSlices (n : ℕ) (a b t s : List ℤ) (w : List ℕ) : Type 0 where
  pub a_long : length a ≡ n
  pub b_long : length b ≡ n
  pub t_long : length t ≡ n
  pub s_long : length s ≡ n
  pub w_long : length w ≡ n

-- no number of SI1 or SI2 is larger, in pass B
abbrev pub largest_si : ℕ
largest_si = largest_b1 + largest_b7

-- SI1 or SI2, its own months alone, from the calendar month of the first, and its 3×3 or 3×5 in r; t and s to work in, w for the weights
pub record Weighs (start : ℕ) (si r t s : List ℤ) (w : List ℕ) : Type 0 where
  pub calendar : Calendar start months_of_year (length si)
  pub si_small : AllWithin largest_si si
  pub r_small : AllWithin largest_si r
  pub r_long : length r ≡ length si
  pub t_long : length t ≡ length si
  pub s_long : length s ≡ length si
  pub w_long : length w ≡ length si

-- what replacing SI2 leaves: SI2 replaced in b, and T2 as it was in t
pub record SI2Replaced (start : ℕ) (x b t : List ℤ) : Type 0 where
  pub si2 : b ≡ replaced_by months_of_year (weights_b9 start x) (SI2 (choices_b4 start x) x)
  pub trend : t ≡ T2 (choices_b4 start x) x

-- what pass B leaves: T2 and S2 of x
pub record PassBDone (start : ℕ) (x t s : List ℤ) : Type 0 where
  pub trend : t ≡ T2 (choices_b start x) x
  pub seasonal : s ≡ S2 (choices_b start x) x

-- METHOD 5.1 and 5.2: years and their groups. Months t and years count from 0, the start month from 1. A year has `period` months.
use Rattle.std.specs.Prelude.{ℕ, ◌+◌, ◌*◌, ◌-◌, ◌/◌, ◌%◌, min, max, ◌≡◌, List, [], ◌∷◌, length, get_or}
use Rattle.std.proofs.Math.Seq.{slice}
use Rattle.integers.specs.Lists.{tab}
use Rattle.refusals.specs.Limits.{months_of_year}

-- the sizes of the months from lo to below hi
unfoldable pub months : ℕ → ℕ → List ℕ → List ℕ
months lo hi sizes = slice lo hi sizes

-- METHOD 5.2: of so many years, the middle one of the group that year y uses: year y itself, but year 2 for years 0 and 1, and the third year from the
-- end for the last two
unfoldable pub centre : ℕ → ℕ → ℕ
centre count y = min (max y 2) (count - 3)

module _ (start period : ℕ) where
  -- METHOD 5.1: the calendar year of month t
  unfoldable pub year_of : ℕ → ℕ
  year_of t = (start - 1 + t) / period

  -- METHOD 3.8: the calendar month of month t, which is the start month of an irregular that has the months from t on
  unfoldable pub month_of : ℕ → ℕ
  month_of t = (start - 1 + t) % period + 1

  -- METHOD 5.1: how many years n months touch; one just begun or cut off at its start counts as any other
  unfoldable pub years : ℕ → ℕ
  years n = year_of (n - 1) + 1

  -- METHOD 5.2: the first month that a series of n months has in year y; n where year y comes after its end
  unfoldable pub year_start : ℕ → ℕ → ℕ
  year_start n y = min n (period * y - (start - 1))

  -- METHOD 5.2: the group of year y: the months of five years, two before it and two after it, as far as the series has them
  unfoldable pub group_around : List ℕ → ℕ → List ℕ
  group_around sizes y = months (year_start (length sizes) (y - 2)) (year_start (length sizes) (y + 3)) sizes

  -- METHOD 5.2: the group that year y uses
  unfoldable pub group : List ℕ → ℕ → List ℕ
  group sizes y = group_around sizes (centre (years (length sizes)) y)

-- METHOD 3.8: the months from k on, as a series of their own from the calendar month of k, keep their calendar years: its year 0 is that of month k
-- (shown in proofs/GroupMonths.antt)
pub record SameYears (start period : ℕ) : Type 0 where
  pub from : (k t : ℕ) → year_of start period (k + t) ≡ year_of start period k + year_of (month_of start period k) period t

-- METHOD 5.2: 114 months from start month 10 touch eleven years. Of the group that each of them uses: its first month t, and how many months it has
-- (shown in proofs/GroupMonths.antt)
pub record BegunYears : Type 0 where
  pub eleven : years 10 months_of_year 114 ≡ 11
  pub first_months : tab 11 (λ y. get_or (group 10 months_of_year (tab 114 (λ t. t)) y) 0 0) ≡ 0 ∷ 0 ∷ 0 ∷ 3 ∷ 15 ∷ 27 ∷ 39 ∷ 51 ∷ 63 ∷ 63 ∷ 63 ∷ []
  pub lengths : tab 11 (λ y. length (group 10 months_of_year (tab 114 (λ t. t)) y)) ≡ 51 ∷ 51 ∷ 51 ∷ 60 ∷ 60 ∷ 60 ∷ 60 ∷ 60 ∷ 51 ∷ 51 ∷ 51 ∷ []

-- METHOD 3.8 and 5.2: SI1 of 72 months has 60. From start month 1 it begins in month 7 and touches six years, which use groups of 54 months; from
-- start month 7 it begins in month 1 and touches five, which all use one group of all months (shown in proofs/GroupMonths.antt)
pub record FewestYears : Type 0 where
  pub from_january : month_of 1 months_of_year 6 ≡ 7
  pub six : years 7 months_of_year 60 ≡ 6
  pub six_groups : tab 6 (λ y. length (group 7 months_of_year (tab 60 (λ t. t)) y)) ≡ 54 ∷ 54 ∷ 54 ∷ 54 ∷ 54 ∷ 54 ∷ []
  pub from_july : month_of 7 months_of_year 6 ≡ 1
  pub five : years 1 months_of_year 60 ≡ 5
  pub one_group : tab 5 (λ y. length (group 1 months_of_year (tab 60 (λ t. t)) y)) ≡ 60 ∷ 60 ∷ 60 ∷ 60 ∷ 60 ∷ []

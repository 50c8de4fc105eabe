-- METHOD 3.8: how pass B finds the extreme values of SI1 and SI2, on a series x from a start month (what the book does in its tables B4 and B9), and
-- what it then chooses, in two turns: SI1 is weighed first, and SI2 comes from SI1 with its extreme values replaced.
use Rattle.std.specs.Prelude.{List, ℕ, ℤ}
use Rattle.refusals.specs.Limits.{months_of_year}
use Rattle.series.specs.Operations.{minus}
use Rattle.rows.specs.declared.SeasonalFilter.TheVariants.{ThreeByFive}
use Rattle.steps.specs.Choices.{none, by_weights, Choices, monthly, plain_monthly}
use Rattle.steps.specs.Steps.{SI1, inner_s1, SI2, S2}
use Rattle.extremes.specs.Years.{month_of}
use Rattle.extremes.specs.Weighing.{weights_of}

-- METHOD 3.8: what the preliminary seasonal of SI1 leaves of it, at t from 6 to n - 7
unfoldable pub irregular_b4 : List ℤ → List ℤ
irregular_b4 x = minus (SI1 plain_monthly x) (inner_s1 plain_monthly x)

-- METHOD 3.8: the start month of this irregular, the calendar month of its first month, t = 6: half a year on
abbrev pub start_b4 : ℕ → ℕ
start_b4 start = month_of start months_of_year plain_monthly.half_year

module _ (start : ℕ) (x : List ℤ) where
  -- METHOD 3.8: the weights of SI1, those of this irregular
  unfoldable pub weights_b4 : List ℕ
  weights_b4 = weights_of (start_b4 start) months_of_year (irregular_b4 x)

  -- the first turn: extreme values of SI1 are replaced, those of SI2 are not
  abbrev pub choices_b4 : Choices
  choices_b4 = monthly ThreeByFive (by_weights weights_b4) none

  -- METHOD 3.8: what the preliminary seasonal of SI2 leaves of it; and the weights of SI2, those of this irregular, over all n months
  unfoldable pub irregular_b9 : List ℤ
  irregular_b9 = minus (SI2 choices_b4 x) (S2 choices_b4 x)

  unfoldable pub weights_b9 : List ℕ
  weights_b9 = weights_of start months_of_year irregular_b9

  -- METHOD 3.8, the choices of pass B: extreme values of both are replaced
  abbrev pub choices_b : Choices
  choices_b = monthly ThreeByFive (by_weights weights_b4) (by_weights weights_b9)

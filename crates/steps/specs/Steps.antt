-- METHOD 3: steps 1 to 7 on a series X, n numbers of grains, by the choices c; the comments name those of METHOD, where half a year is 6 months. T1,
-- SI1, R1, M1 and what is between them have the months from 6 to n - 7: as lists their place 0 is month 6, so that no value of a run comes before place
-- 0, and months a year apart stay twelve places apart. ByMonth says the same by t.
use Rattle.std.specs.Prelude.{List, length, ℤ}
use Rattle.series.specs.Operations.{minus, pick}
use Rattle.filters.specs.Filter.{filter, inside}
use Rattle.steps.specs.Choices.{Choices, replaced}
use Rattle.steps.specs.Places.{inner, nearest_level, widened}

-- METHOD 3.4 and 3.7: 2×12 of a series, the first and the last of its results repeated at the six places of each end
unfoldable pub level : Choices → List ℤ → List ℤ
level c r = pick (length r) (nearest_level c.half_year (length r)) (inside c.yearly.table r)

module _ (c : Choices) (x : List ℤ) where
  -- METHOD 3.1: T1, the first trend-cycle, is 2×12 of X
  unfoldable pub T1 : List ℤ
  T1 = inside c.yearly.table x

  -- METHOD 3.2: SI1, seasonal and irregular together, is X less T1, at the months of T1
  unfoldable pub SI1 : List ℤ
  SI1 = minus (inner c.half_year x) T1

  -- METHOD 3.8 and 3.10: SI1 as it is filtered, in pass B with its extreme values replaced
  abbrev pub filtered_si1 : List ℤ
  filtered_si1 = replaced c.half_year c.replacing1 SI1

  -- METHOD 3.3: R1, the first seasonal before it is centred, is 3×3 of it, month's run by month's run
  unfoldable pub R1 : List ℤ
  R1 = filter c.seasonal1.table filtered_si1

  -- METHOD 3.4: M1 is 2×12 of R1; its first value, that of month 12, stands for months 6 to 11 too, and its last, of month n - 13, for the last six.
  -- S1, the first seasonal, is R1 less M1, at t from 6 to n - 7 (`inner_s1`); the first six months copy that of a year later, the last six that of a
  -- year earlier
  unfoldable pub M1 : List ℤ
  M1 = level c R1

  unfoldable pub inner_s1 : List ℤ
  inner_s1 = minus R1 M1

  unfoldable pub S1 : List ℤ
  S1 = widened c.half_year inner_s1

  -- METHOD 3.5: A1, the first adjusted series, is X less S1; T2, the trend-cycle of the pass, is Henderson's filter of A1, ends included
  unfoldable pub A1 : List ℤ
  A1 = minus x S1

  unfoldable pub T2 : List ℤ
  T2 = filter c.trend.table A1

  -- METHOD 3.6: SI2 is X less T2; as it is filtered, in pass B its extreme values are replaced (3.8, 3.10)
  unfoldable pub SI2 : List ℤ
  SI2 = minus x T2

  abbrev pub filtered_si2 : List ℤ
  filtered_si2 = replaced c.half_year c.replacing2 SI2

  -- METHOD 3.6: R2, the seasonal before it is centred, is 3×5 of it, in pass D the filter chosen, run by run, over all n months
  unfoldable pub R2 : List ℤ
  R2 = filter c.seasonal2.table filtered_si2

  -- METHOD 3.7: M2 is 2×12 of R2, its first and last result repeated at the six months of each end; S2, the seasonal of the pass, is R2 less M2
  unfoldable pub M2 : List ℤ
  M2 = level c R2

  unfoldable pub S2 : List ℤ
  S2 = minus R2 M2

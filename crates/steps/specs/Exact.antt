-- METHOD 6.1: a pass without rounding, by the choices c: steps 1 to 7 as whole numbers over a denominator that stands beside each. A filter is
-- left as the weighted sum of its row, a replaced value as its mean, by the weights in c; what is repeated, copied and subtracted is as in the steps.
use Rattle.std.specs.Prelude.{List, ℕ, ◌*◌, length, ℤ}
use Rattle.series.specs.Operations.{minus, times, pick}
use Rattle.filters.specs.Filter.{exact, exact_inside}
use Rattle.steps.specs.Choices.{Choices, exact_replaced, over_replaced}
use Rattle.steps.specs.Places.{inner, nearest_level, widened}

-- the denominators, where X is whole: of R1, of A1, of T2, of R2 and of S2
module _ (c : Choices) where
  abbrev pub over_r1 : ℕ
  over_r1 = c.yearly.over * over_replaced c.replacing1 * c.seasonal1.over

  abbrev pub over_a1 : ℕ
  over_a1 = over_r1 * c.yearly.over

  abbrev pub over_t2 : ℕ
  over_t2 = over_a1 * c.trend.over

  abbrev pub over_r2 : ℕ
  over_r2 = over_t2 * over_replaced c.replacing2 * c.seasonal2.over

  abbrev pub over_s2 : ℕ
  over_s2 = over_r2 * c.yearly.over

-- METHOD 3.4 and 3.7: 2×12 with its first and last result repeated at the ends, over 24 times the denominator of r
unfoldable pub exact_level : Choices → List ℤ → List ℤ
exact_level c r = pick (length r) (nearest_level c.half_year (length r)) (exact_inside c.yearly.table c.yearly.over r)

-- X may itself stand over a denominator: every one below is then so many times as large
module _ (c : Choices) (x : List ℤ) where
  -- T1 and SI1 (METHOD 3.1, 3.2), over 24
  unfoldable pub exact_t1 : List ℤ
  exact_t1 = exact_inside c.yearly.table c.yearly.over x

  unfoldable pub exact_si1 : List ℤ
  exact_si1 = minus (times c.yearly.over (inner c.half_year x)) exact_t1

  -- R1 (METHOD 3.3), over over_r1: 24 * 748,440, and `common` times as much where SI1 is replaced
  unfoldable pub exact_r1 : List ℤ
  exact_r1 = exact c.seasonal1.table c.seasonal1.over (exact_replaced c.half_year c.replacing1 exact_si1)

  -- M1, S1 and A1 (METHOD 3.4, 3.5), over over_a1, 24 times over_r1
  unfoldable pub exact_m1 : List ℤ
  exact_m1 = exact_level c exact_r1

  unfoldable pub exact_s1 : List ℤ
  exact_s1 = widened c.half_year (minus (times c.yearly.over exact_r1) exact_m1)

  unfoldable pub exact_a1 : List ℤ
  exact_a1 = minus (times (over_a1 c) x) exact_s1

  -- T2 and SI2 (METHOD 3.5, 3.6), over over_t2
  unfoldable pub exact_t2 : List ℤ
  exact_t2 = exact c.trend.table c.trend.over exact_a1

  unfoldable pub exact_si2 : List ℤ
  exact_si2 = minus (times (over_t2 c) x) exact_t2

  -- R2 (METHOD 3.6), over over_r2
  unfoldable pub exact_r2 : List ℤ
  exact_r2 = exact c.seasonal2.table c.seasonal2.over (exact_replaced c.half_year c.replacing2 exact_si2)

  -- M2 and S2 (METHOD 3.7), over over_s2
  unfoldable pub exact_m2 : List ℤ
  exact_m2 = exact_level c exact_r2

  unfoldable pub exact_s2 : List ℤ
  exact_s2 = minus (times c.yearly.over exact_r2) exact_m2

-- METHOD 3: which months a step takes from which, h being half a year: 6 months. (A difference below 0 is 0.)
use Rattle.std.specs.Prelude.{cond, List, ℕ, ◌+◌, ◌*◌, ◌-◌, min, max, ltb, length, ℤ}
use Rattle.integers.specs.Lists.{◌‼◌}
use Rattle.series.specs.Operations.{pick}

module _ (h : ℕ) where
  -- METHOD 3: the months from t 6 to n - 7 of a series
  unfoldable pub inner : List ℤ → List ℤ
  inner x = pick (length x - 2 * h) (λ i. i + h) x

  -- METHOD 3: month t of such a list, whose place 0 is month 6; asked for t from 6 to n - 7 alone
  abbrev pub at_month : List ℤ → ℕ → ℤ
  at_month l t = l ‼ (t - h)

  -- METHOD 3.4 and 3.7: of the months from `first` to below `past`, the one nearest to t that has six of them on each side
  unfoldable pub nearest_month : ℕ → ℕ → ℕ → ℕ
  nearest_month first past t = max (first + h) (min t (past - (h + 1)))

  -- METHOD 3.4 and 3.7: 2×12 of a list of m numbers has m - 12 values, the first for place 6 and the last for place m - 7: which of them place i
  -- takes, the nearest
  unfoldable pub nearest_level : ℕ → ℕ → ℕ
  nearest_level m i = min (i - h) (m - (2 * h + 1))

  -- METHOD 3.4: month t of n takes which of the numbers of months 6 to n - 7: the first six months copy that of a year later, the last six that of a
  -- year earlier
  unfoldable pub copied : ℕ → ℕ → ℕ
  copied n t = cond (ltb t h) (t + 2 * h - h) (cond (ltb t (n - h)) (t - h) (t - 2 * h - h))

  -- METHOD 3.4: all n months from the n - 12 in the middle
  unfoldable pub widened : List ℤ → List ℤ
  widened s = pick (length s + 2 * h) (copied (length s + 2 * h)) s

-- METHOD 3.9: the values of SI1 or SI2, those of a weight w below 1,000 replaced by means; and METHOD 6.1: the same exactly, with the same weights and
-- neighbours.
use Rattle.std.specs.Prelude.{Bool, cond, ◌&&◌, List, [], ◌∷◌, ℕ, zero, suc, ◌+◌, ◌*◌, ◌/◌, ltb, length, get_or, ℤ, pos, ◌+ℤ◌, ◌*ℤ◌}
use Rattle.integers.specs.Lists.{◌‼◌, tab}
use Rattle.integers.specs.Rounding.{to_grain}
use Rattle.refusals.specs.Limits.{full_weight}
use Rattle.replacing.specs.Neighbours.{neighbours}

-- the sum of the values at some places
unfoldable pub sum_at : List ℤ → List ℕ → ℤ
sum_at x [] = pos 0
sum_at x (p ∷ ps) = (x ‼ p) +ℤ sum_at x ps

-- 1 * 2 * .. * n
unfoldable pub factorial : ℕ → ℕ
factorial zero = 1
factorial (suc n) = suc n * factorial n

-- METHOD 6.1: the denominator of all exact means. A mean is over 4,999 at most (a value of weight 999 and four neighbours), and each number from 1 to
-- 4,999 divides their product, which is never worked out: two laws open this definition, that one and that it is not 0 (proofs/ReplacedLaws.antt)
unfoldable pub common : ℕ
common = factorial 4999

module _ (period : ℕ) (w : List ℕ) where
  -- METHOD 3.9: a value is replaced if its weight is below 1,000 and it has a neighbour; else it stays
  unfoldable pub is_replaced : ℕ → Bool
  is_replaced t = ltb (get_or w t 0) full_weight && ltb 0 (length (neighbours period w t))

  -- METHOD 3.9: the value counted w times and each neighbour 1,000 times ..
  unfoldable pub counted_sum : List ℤ → ℕ → ℤ
  counted_sum x t = pos (get_or w t 0) *ℤ (x ‼ t) +ℤ pos full_weight *ℤ sum_at x (neighbours period w t)

  -- .. over w, and 1,000 more for each neighbour
  unfoldable pub counted : ℕ → ℕ
  counted t = get_or w t 0 + full_weight * length (neighbours period w t)

  -- METHOD 3.9: that mean, rounded once to a grain; and all values, the means taken from the values as they stood
  unfoldable pub replaced_at : List ℤ → ℕ → ℤ
  replaced_at x t = cond (is_replaced t) (to_grain (counted_sum x t) (counted t)) (x ‼ t)

  unfoldable pub replaced_by : List ℤ → List ℤ
  replaced_by x = tab (length x) (replaced_at x)

  -- METHOD 6.1: each mean left as its fraction, all as whole numbers over `common` times the denominator of x
  unfoldable pub exact_replaced_at : List ℤ → ℕ → ℤ
  exact_replaced_at x t = cond (is_replaced t) (pos (common / counted t) *ℤ counted_sum x t) (pos common *ℤ (x ‼ t))

  unfoldable pub exact_replaced_by : List ℤ → List ℤ
  exact_replaced_by x = tab (length x) (exact_replaced_at x)

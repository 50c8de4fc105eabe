-- METHOD 5.6: the weights, and that none is above 1,000; 5.7: the correction.
use Rattle.std.specs.Prelude.{ℕ, ◌*◌, ◌-◌, ◌≤◌, cond, List, ltb, eqb, length, get_or, ℤ, pos, ◌*ℤ◌}
use Rattle.integers.specs.Lists.{tab}
use Rattle.integers.specs.Rounding.{half_up, to_grain}
use Rattle.refusals.specs.Limits.{full_weight}
use Rattle.extremes.specs.Years.{year_of, group}
use Rattle.extremes.specs.Spreads.{sizes_of, second_spread}

-- METHOD 5.6: the weight of a month of size a, σ being the second spread that its year uses. The first case that fits decides:
-- σ = 0: 1,000 where a = 0, and 0 where it is not; 2a > 5σ: 0; 2a < 3σ: 1,000;
-- otherwise 2,500 - 1,000a/σ, the quotient rounded first, a half up
unfoldable pub weight : ℕ → ℕ → ℕ
weight σ a =
    cond (eqb σ 0) (cond (eqb a 0) full_weight 0)
    (cond (ltb (5 * σ) (2 * a)) 0
    (cond (ltb (2 * a) (3 * σ)) full_weight
    (2500 - half_up (full_weight * a) σ)))

-- the weight of month t by a spread
unfoldable pub weight_by : ℕ → List ℕ → ℕ → ℕ
weight_by σ sizes t = weight σ (get_or sizes t 0)

module _ (start period : ℕ) where
  -- METHOD 5.6: by the second spread that its year uses
  unfoldable pub month_weight : List ℕ → ℕ → ℕ
  month_weight sizes t = weight_by (second_spread (group start period sizes (year_of start period t))) sizes t

  -- all months, a begun year's too
  unfoldable pub weights_by : List ℕ → List ℕ
  weights_by sizes = tab (length sizes) (month_weight sizes)

  -- METHOD 3.8, 4.1 and 4.2: the weights of an irregular
  unfoldable pub weights_of : List ℤ → List ℕ
  weights_of x = weights_by (sizes_of x)

-- METHOD 1.5 and 5.6: no weight is above 1,000, for every start month, number of months in a year and irregular (shown in proofs/WeighingLaws.antt)
abbrev pub NoneAboveFull : Type 0
NoneAboveFull = (start period : ℕ) (irregular : List ℤ) (t : ℕ) → get_or (weights_of start period irregular) t 0 ≤ full_weight

-- METHOD 5.7: the correction of a month: its irregular z times (1,000 less its weight w), over 1,000, rounded to a grain
unfoldable pub correction_of : ℤ → ℕ → ℤ
correction_of z w = to_grain (z *ℤ pos (full_weight - w)) full_weight

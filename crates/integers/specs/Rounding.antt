-- METHOD 1.3 and 1.4: fractions are rounded one single time, to the nearest whole number. `to_grain` rounds every filter (2.1), every correction
-- (5.7) and every value that is replaced (3.9); `away_from_zero` the millionths of Henderson's rows (2.5, 2.6) and an irregular to whole units (5.3);
-- `half_up` the quotient of a weight (5.6). Only where a fraction lies halfway between two whole numbers can they differ.
use Rattle.std.specs.Prelude.{◌≡◌, cond, ℕ, suc, ◌+◌, ◌*◌, ◌/◌, ◌%◌, ◌<◌, ◌≤◌, ltb, ℤ, pos, negsuc, neg_ℤ, nat_abs, ◌-ℤ◌, ◌*ℤ◌}

-- METHOD 1.3, the size of a fraction, n over d: its whole part stays where the double of the remainder is less than d, and gets one more where
-- it is greater; where that double is d itself, the whole part gets one more if it is odd
unfoldable pub half_to_even : ℕ → ℕ → ℕ
half_to_even n d =
    cond (ltb (2 * (n % d)) d) (n / d)
    (cond (ltb d (2 * (n % d))) (n / d + 1)
    (n / d + (n / d) % 2))

-- METHOD 1.3, every rounding to a grain: x / d to the nearest grain, and from halfway to the even one
unfoldable pub to_grain : ℤ → ℕ → ℤ
to_grain (pos n) d = pos (half_to_even n d)
to_grain (negsuc n) d = neg_ℤ (pos (half_to_even (suc n) d))

-- METHOD 1.3, what holds of the number, however it is found: r is at most half a grain from x / d, and where it is just half a grain away it
-- is even
pub record NearestEven (x : ℤ) (d : ℕ) (r : ℤ) : Type 0 where
  pub near : 2 * nat_abs (pos d *ℤ r -ℤ x) ≤ d
  pub even : 2 * nat_abs (pos d *ℤ r -ℤ x) ≡ d → nat_abs r % 2 ≡ 0

-- being near, and even on a half, settles the rounding: `to_grain` gives such a number, and there is no other (shown in
-- proofs/RoundingLaws.antt, to_grain-settled)
pub record Settled (x : ℤ) (d : ℕ) : Type 0 where
  pub one : NearestEven x d (to_grain x d)
  pub no_other : (r : ℤ) → NearestEven x d r → r ≡ to_grain x d

abbrev pub ToGrainSettled : Type 0
ToGrainSettled = (x : ℤ) (d : ℕ) → 0 < d → Settled x d

-- METHOD 1.4, the quotient of a weight (5.6): n / d to the nearest whole number, a half up
unfoldable pub half_up : ℕ → ℕ → ℕ
half_up n d = (2 * n + d) / (2 * d)

-- METHOD 1.4, millionths and whole units: x / d to the nearest whole number, and from halfway to the one farther from zero
unfoldable pub away_from_zero : ℤ → ℕ → ℤ
away_from_zero (pos n) d = pos (half_up n d)
away_from_zero (negsuc n) d = neg_ℤ (pos (half_up (suc n) d))

-- How large the tables of a pass can be: SI1, R1 and M1 twice X, S1 four times, A1 five, T2 six and a half, SI2, R2 and M2 seven and a half, S2
-- fifteen times.
use mathlib.Core.List.{List}
use Prim.Native.Nat.{ℕ, ◌+◌, ◌*◌, ◌≤◌}
use native.Mathlib.Omega.{arith}
use lib.ListN.{length}
use lib.IntN.{ℤ}
use Rattle.integers.specs.Lists.{AllWithin}
use Rattle.filters.specs.Filter.{filter, inside}
use Rattle.series.proofs.Largest.{larger, within-pick, within-minus}
use Rattle.filters.proofs.Largest.{within-filter, within-inside}
use Rattle.replacing.proofs.ReplacedLaws.{within-replaced-by}
use Rattle.steps.specs.Choices.{MovingAverage, Replacing, none, by_weights, replaced, Choices}
use Rattle.steps.specs.Steps.{level, T1, SI1, R1, M1, inner_s1, S1, A1, T2, SI2, R2, M2, S2}
use Rattle.steps.specs.Places.{inner, nearest_level, widened}
use Rattle.steps.proofs.Sound.{Norm, Sound}

module _ {b : ℕ} {x : List ℤ} (h : AllWithin b x) where
  pub within-inner : (m : ℕ) → AllWithin b (inner m x)
  unfolding inner
  within-inner m = within-pick _ _ h

  -- by a filter of norm N
  pub within-norm : (f : MovingAverage) (N c : ℕ) → Norm N f → N * b ≤ 1000 * c → AllWithin c (filter f.table x)
  within-norm f N c l i = within-filter f.table f.over N c l i h

  -- a mean is no larger
  within_mean : (f : MovingAverage) → Norm 1000 f → AllWithin b (filter f.table x)
  within_mean f l = within-norm f 1000 b l (omega arith)

  pub within_means : (f : MovingAverage) → Norm 1000 f → AllWithin b (inside f.table x)
  within_means f l = within-inside f.table f.over 1000 b l (omega arith) h

  within_level : {c : Choices} → Sound c → AllWithin b (level c x)
  unfolding level
  within_level {c} ok = within-pick (length x) (nearest_level c.half_year (length x)) (within_means c.yearly ok.yearly_norm)

-- replacing does not enlarge
within-replaced : {b : ℕ} {x : List ℤ} (m : ℕ) (r : Replacing) → AllWithin b x → AllWithin b (replaced m r x)
within-replaced m none h = h
within-replaced m (by_weights w) h = within-replaced-by (2 * m) w h

module _ {c : Choices} (ok : Sound c) {b : ℕ} {x : List ℤ} (h : AllWithin b x) where
  pub si1 : AllWithin (2 * b) (SI1 c x)
  unfolding SI1 T1
  si1 = larger (within-minus (within-inner h c.half_year) (within_means h c.yearly ok.yearly_norm)) (omega arith)

  pub replaced1 : AllWithin (2 * b) (replaced c.half_year c.replacing1 (SI1 c x))
  replaced1 = within-replaced c.half_year c.replacing1 si1

  pub r1 : AllWithin (2 * b) (R1 c x)
  unfolding R1
  r1 = within_mean replaced1 c.seasonal1 ok.seasonal1_norm

  pub inner_s1-within : AllWithin (4 * b) (inner_s1 c x)
  unfolding inner_s1 M1
  inner_s1-within = larger (within-minus r1 (within_level r1 ok)) (omega arith)

  pub s1 : AllWithin (4 * b) (S1 c x)
  unfolding S1 widened
  s1 = within-pick _ _ inner_s1-within

  pub a1 : AllWithin (5 * b) (A1 c x)
  unfolding A1
  a1 = larger (within-minus h s1) (omega arith)

  -- d is six and a half times b
  module _ (d : ℕ) (enough : 13 * b ≤ 2 * d) where
    pub t2 : AllWithin d (T2 c x)
    unfolding T2
    t2 = within-norm a1 c.trend 1300 d ok.trend_norm (omega arith)

    pub si2 : AllWithin (b + d) (SI2 c x)
    unfolding SI2
    si2 = within-minus h t2

    pub replaced2 : AllWithin (b + d) (replaced c.half_year c.replacing2 (SI2 c x))
    replaced2 = within-replaced c.half_year c.replacing2 si2

    pub r2 : AllWithin (b + d) (R2 c x)
    unfolding R2
    r2 = within_mean replaced2 c.seasonal2 ok.seasonal2_norm

    pub s2 : AllWithin (2 * b + 2 * d) (S2 c x)
    unfolding S2 M2
    s2 = larger (within-minus r2 (within_level r2 ok)) (omega arith)

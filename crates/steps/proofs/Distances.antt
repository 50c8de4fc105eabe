-- A pass, step by step, on a series that is itself b thousandths of a grain from exact numbers over k: how many thousandths each table is from
-- the exact working on those.
use mathlib.Core.Path.{refl}
use mathlib.Core.List.{List}
use Prim.Native.Nat.{ℕ, ◌+◌, ◌*◌, ◌-◌, ◌≤◌, ◌<◌}
use native.Mathlib.Nat.{le_refl, mul-pos}
use native.Mathlib.Omega.{arith}
use lib.ListN.{length}
use lib.IntN.{ℤ}
use Rattle.filters.specs.Filter.{filter, exact, inside, exact_inside}
use Rattle.series.specs.Distance.{Close}
use Rattle.series.proofs.Distances.{close_self, close-pick, looser, close_less, grains}
use Rattle.filters.proofs.Distances.{close-filter, close-inside}
use Rattle.replacing.proofs.ReplacedLaws.{common-some, close-replaced-by}
use Rattle.steps.specs.Choices.{MovingAverage, Replacing, none, by_weights, replaced, exact_replaced, over_replaced, Choices}
use Rattle.steps.specs.Steps.{level, T1, SI1, R1, M1, inner_s1, S1, A1, T2, SI2, R2, M2, S2}
use Rattle.steps.specs.Places.{inner, nearest_level, copied, widened}
use Rattle.steps.specs.Exact.{over_r1, over_a1, over_t2, over_r2, over_s2, exact_level, exact_t1, exact_si1, exact_r1, exact_m1, exact_s1, exact_a1, exact_t2, exact_si2, exact_r2, exact_m2, exact_s2}
use Rattle.steps.specs.Near.{Near}
use Rattle.steps.proofs.Sound.{Norm, Sound}

-- ---- what a step does
module _ {b k : ℕ} {x e : List ℤ} (h : Close b k x e) where
  close-inner : (m : ℕ) → Close b k (inner m x) (inner m e)
  unfolding inner
  close-inner m = rw h.long (close-pick (length e - 2 * m) (λ i. i + m) h)

  close-widened : (m : ℕ) → Close b k (widened m x) (widened m e)
  unfolding widened
  close-widened m = rw h.long (close-pick (length e + 2 * m) (copied m (length e + 2 * m)) h)

  -- by a filter of norm N
  pub close-norm : (f : MovingAverage) (N c : ℕ) → Norm N f → b * N + 500_000 ≤ 1000 * c → Close c (k * f.over) (filter f.table x) (exact f.table f.over e)
  close-norm f N c l i = close-filter f.table f.over N c l i h

  -- a mean adds half a grain
  close_mean : (f : MovingAverage) → Norm 1000 f → Close (b + 500) (k * f.over) (filter f.table x) (exact f.table f.over e)
  close_mean f l = close-norm f 1000 (b + 500) l (omega arith)

  close_means : (f : MovingAverage) → Norm 1000 f → Close (b + 500) (k * f.over) (inside f.table x) (exact_inside f.table f.over e)
  close_means f l = close-inside f.table f.over 1000 (b + 500) l (omega arith) h

close-level : {b k : ℕ} {x e : List ℤ} {c : Choices} → Sound c → Close b k x e → Close (b + 500) (k * c.yearly.over) (level c x) (exact_level c e)
unfolding level exact_level
close-level {e} {c} ok h = rw h.long (close-pick (length e) (nearest_level c.half_year (length e)) (close_means h c.yearly ok.yearly_norm))

-- what replacing adds: a mean is rounded, half a grain
abbrev pub added : Replacing → ℕ
added none = 0
added (by_weights w) = 500

close-replaced : {b k : ℕ} {x e : List ℤ} (m : ℕ) (r : Replacing) → Close b k x e → Close (b + added r) (k * over_replaced r) (replaced m r x) (exact_replaced m r e)
close-replaced m none h = looser h (omega arith) (omega arith)
close-replaced m (by_weights w) h = close-replaced-by (2 * m) w h

-- ---- the steps. T2 is within d, 6.5 b + 3,750 and 2.6 times what replacing adds; S2 is within 2 b + 2 d + 1,500 and twice what replacing adds: where
-- nothing is replaced, 15 b + 9,000
module _ {c : Choices} (ok : Sound c) {b k : ℕ} {x e : List ℤ} (h : Close b k x e) (d : ℕ) (enough : 65 * b + 26 * added c.replacing1 + 37_500 ≤ 10 * d) where
  t1 : Close (b + 500) (k * c.yearly.over) (T1 c x) (exact_t1 c e)
  unfolding T1 exact_t1
  t1 = close_means h c.yearly ok.yearly_norm

  si1 : Close (2 * b + 500) (k * c.yearly.over) (SI1 c x) (exact_si1 c e)
  unfolding SI1 exact_si1
  si1 = close_less c.yearly.over (close-inner h c.half_year) t1 (omega arith) refl

  r1 : Close (2 * b + added c.replacing1 + 1000) (k * over_r1 c) (R1 c x) (exact_r1 c e)
  unfolding R1 exact_r1
  r1 = looser (close_mean (close-replaced c.half_year c.replacing1 si1) c.seasonal1 ok.seasonal1_norm) (omega arith) (omega arith)

  m1 : Close (2 * b + added c.replacing1 + 1500) (k * over_a1 c) (M1 c x) (exact_m1 c e)
  unfolding M1 exact_m1
  m1 = looser (close-level ok r1) (omega arith) (omega arith)

  s1 : Close (4 * b + 2 * added c.replacing1 + 2500) (k * over_a1 c) (S1 c x) (exact_s1 c e)
  unfolding S1 inner_s1 exact_s1
  s1 = close-widened (close_less c.yearly.over r1 m1 (omega arith) (omega arith)) c.half_year

  a1 : Close (5 * b + 2 * added c.replacing1 + 2500) (k * over_a1 c) (A1 c x) (exact_a1 c e)
  unfolding A1 exact_a1
  a1 = close_less (over_a1 c) h s1 (omega arith) refl

  pub t2 : Close d (k * over_t2 c) (T2 c x) (exact_t2 c e)
  unfolding T2 exact_t2
  t2 = looser (close-norm a1 c.trend 1300 d ok.trend_norm (omega arith)) (le_refl d) (omega arith)

  si2 : Close (b + d) (k * over_t2 c) (SI2 c x) (exact_si2 c e)
  unfolding SI2 exact_si2
  si2 = close_less (over_t2 c) h t2 (le_refl (b + d)) refl

  r2 : Close (b + d + added c.replacing2 + 500) (k * over_r2 c) (R2 c x) (exact_r2 c e)
  unfolding R2 exact_r2
  r2 = looser (close_mean (close-replaced c.half_year c.replacing2 si2) c.seasonal2 ok.seasonal2_norm) (omega arith) (omega arith)

  m2 : Close (b + d + added c.replacing2 + 1000) (k * over_s2 c) (M2 c x) (exact_m2 c e)
  unfolding M2 exact_m2
  m2 = looser (close-level ok r2) (omega arith) (omega arith)

  pub s2 : Close (2 * b + 2 * d + 2 * added c.replacing2 + 1500) (k * over_s2 c) (S2 c x) (exact_s2 c e)
  unfolding S2 exact_s2
  s2 = close_less c.yearly.over r2 m2 (omega arith) (omega arith)

-- ---- no denominator is 0
replaced-some : (r : Replacing) → 0 < over_replaced r
replaced-some none = omega arith
replaced-some (by_weights w) = common-some

module _ {c : Choices} (ok : Sound c) where
  over_r1-some : 0 < over_r1 c
  over_r1-some = mul-pos (mul-pos ok.yearly_over (replaced-some c.replacing1)) ok.seasonal1_over

  over_t2-some : 0 < over_t2 c
  over_t2-some = mul-pos (mul-pos over_r1-some ok.yearly_over) ok.trend_over

  pub over_s2-some : 0 < over_s2 c
  over_s2-some = mul-pos (mul-pos (mul-pos over_t2-some (replaced-some c.replacing2)) ok.seasonal2_over) ok.yearly_over

-- ---- a series as it stands: b is 0
module _ {c : Choices} (ok : Sound c) (x : List ℤ) (d : ℕ) (enough : 26 * added c.replacing1 + 37_500 ≤ 10 * d) where
  pub own_t2 : Close d (over_t2 c) (T2 c x) (exact_t2 c x)
  own_t2 = looser (t2 ok (close_self x) d (omega arith)) (le_refl d) (omega arith)

  pub own_s2 : Close (2 * d + 2 * added c.replacing2 + 1500) (over_s2 c) (S2 c x) (exact_s2 c x)
  own_s2 = looser (s2 ok (close_self x) d (omega arith)) (omega arith) (omega arith)

  pub near : (g h : ℕ) → d ≤ 1000 * g → 2 * d + 2 * added c.replacing2 + 1500 ≤ 1000 * h → Near c g h x (T2 c x) (S2 c x)
  near g h i j = record { trend = grains g (over_t2-some ok) i own_t2; seasonal = grains h (over_s2-some ok) j own_s2 }

-- Replaced values, for any length of a year: how many values a mean counts, how long and how large the table is, and how far from the exact one.
use mathlib.Core.Path.{◌≡◌, refl, sym, ap, subst, ◌∙◌}
use mathlib.Core.Bool.{Bool, true, false, cond}
use mathlib.Core.List.{List, [], ◌∷◌, ◌++◌}
use Prim.Native.Nat.{ℕ, zero, suc, ◌+◌, ◌*◌, ◌-◌, ◌/◌, ◌≤◌, ◌<◌, ◌∣◌, min}
use native.Mathlib.Nat.{dvd-mul_right, dvd-mul_left_of_dvd, mul-div_cancel', mul-pos}
use native.Mathlib.Decide.{dec_le}
use native.Mathlib.Omega.{arith}
use lib.Dec.{T, ltb, leb, ltb→lt}
use lib.ListN.{length, get_or, take, length-append, length-take}
use lib.IntN.{ℤ, pos, nat_abs, ◌+ℤ◌, ◌-ℤ◌, ◌*ℤ◌}
use Rattle.integers.specs.Sizes.{◌within◌}
use Rattle.integers.specs.Lists.{◌‼◌, AllWithin}
use Rattle.integers.specs.Rounding.{to_grain}
use Rattle.integers.specs.Sums.{sum_z, wsum}
use Rattle.integers.proofs.Differences.{rep, ringℤ}
use Rattle.integers.proofs.SumLaws.{sum-front}
use Rattle.integers.proofs.FillingLaws.{length-tab, tab-within}
use Rattle.refusals.specs.Limits.{full_weight}
use Rattle.series.specs.Distance.{Close}
use Rattle.series.proofs.Lengths.{at-times}
use Rattle.series.proofs.Distances.{close-tab, close-times, looser}
use Rattle.rows.proofs.RowTests.{left, right}
use Rattle.rows.proofs.Means.{Mean}
use Rattle.filters.proofs.WeightedMeans.{within_mean, close_mean}
use Rattle.replacing.specs.Neighbours.{full_before, full_after, nearest, neighbours}
use Rattle.replacing.specs.Replaced.{sum_at, factorial, common, is_replaced, counted_sum, counted, replaced_at, replaced_by, exact_replaced_at, exact_replaced_by}

-- ---- each number from 1 to n divides their product
divides : (n d : ℕ) → 0 < d → d ≤ n → d ∣ factorial n
unfolding factorial
divides zero d h k = absurd (omega arith)
divides (suc n) d h k = go (λ l. divides n d h l) (dec_le d n)
  where
    go : (d ≤ n → d ∣ factorial n) → Dec (d ≤ n) → d ∣ suc n * factorial n
    go f (yes l) = dvd-mul_left_of_dvd d (f l) (suc n)
    go f (no l) = let e : d ≡ suc n = omega arith in subst (λ (m : ℕ). m ∣ suc n * factorial n) (sym e) (dvd-mul_right (suc n) (factorial n))

pub in-common : (d : ℕ) → 0 < d → d ≤ 4999 → d * (common / d) ≡ common
unfolding common
in-common d h k = mul-div_cancel' d (divides 4999 d h k)

-- the product is not 0, so that a fraction over it is one
factorial-some : (n : ℕ) → 0 < factorial n
unfolding factorial
factorial-some zero = omega arith
factorial-some (suc n) = mul-pos {m = suc n} (omega arith) (factorial-some n)

pub common-some : 0 < common
unfolding common
common-some = factorial-some 4999

-- ---- a value has four neighbours at most
nearest-most : (k t : ℕ) (es ls : List ℕ) → length (nearest k t es ls) ≤ k
unfolding nearest
nearest-most zero t es ls = omega arith
nearest-most (suc k) t [] [] = omega arith
nearest-most (suc k) t [] (q ∷ ls) = omega (arith, nearest-most k t [] ls)
nearest-most (suc k) t (p ∷ es) [] = omega (arith, nearest-most k t es [])
nearest-most (suc k) t (p ∷ es) (q ∷ ls) = go (nearest k t es (q ∷ ls)) (nearest k t (p ∷ es) ls) (leb (t - p) (q - t)) (nearest-most k t es (q ∷ ls)) (nearest-most k t (p ∷ es) ls)
  where
    go : (a b : List ℕ) (c : Bool) → length a ≤ k → length b ≤ k → length (cond c (p ∷ a) (q ∷ b)) ≤ suc k
    go a b true h l = omega arith
    go a b false h l = omega arith

pub neighbours-most : (period : ℕ) (w : List ℕ) (t : ℕ) → length (neighbours period w t) ≤ 4
unfolding neighbours
neighbours-most period w t = go (ltb (min (length (full_before period w t)) (length (full_after period w t))) 2)
  where
    go : (c : Bool) → length (cond c (nearest 3 t (full_before period w t) (full_after period w t)) (take 2 (full_before period w t) ++ take 2 (full_after period w t))) ≤ 4
    go true = omega (arith, nearest-most 3 t (full_before period w t) (full_after period w t))
    go false = simp (length-append, length-take) (omega arith)

-- ---- the counted sum as a weighted sum: the value itself, then each neighbour
abbrev count_of : ℕ → ℕ → ℤ
count_of own zero = pos own
count_of own (suc j) = pos full_weight

neighbours-sum : (c : ℕ) (x : List ℤ) (ps : List ℕ) → wsum (length ps) (λ _. pos c) (λ j. x ‼ get_or ps j 0) ≡ pos c *ℤ sum_at x ps
unfolding sum_z sum_at
neighbours-sum c x [] = ap pos (omega arith)
neighbours-sum c x (p ∷ ps) = sum-front (length ps) (λ j. pos c *ℤ (x ‼ get_or (p ∷ ps) j 0)) ∙ rw (neighbours-sum c x ps) (out (x ‼ p) (sum_at x ps))
  where
    out : (a b : ℤ) → pos c *ℤ a +ℤ pos c *ℤ b ≡ pos c *ℤ (a +ℤ b)
    out a b = rw (rep a, rep b) (simp ringℤ (omega arith))

as_weighted : (own : ℕ) (x : List ℤ) (t : ℕ) (ps : List ℕ)
    → wsum (suc (length ps)) (count_of own) (λ j. x ‼ get_or (t ∷ ps) j 0) ≡ pos own *ℤ (x ‼ t) +ℤ pos full_weight *ℤ sum_at x ps
as_weighted own x t ps = sum-front (length ps) (λ j. count_of own j *ℤ (x ‼ get_or (t ∷ ps) j 0))
    ∙ ap (λ (z : ℤ). pos own *ℤ (x ‼ t) +ℤ z) (neighbours-sum full_weight x ps)

count-sum : (own n : ℕ) → sum_z (suc n) (count_of own) ≡ pos (own + full_weight * n)
unfolding sum_z
count-sum own zero = ap pos (omega arith)
count-sum own (suc n) = rw (count-sum own n) (ap pos (omega arith))

counts-mean : (own n : ℕ) → Mean (suc n) (count_of own) (own + full_weight * n)
counts-mean own n = record { none_below = λ j l. natural j; one = count-sum own n }
  where
    natural : (j : ℕ) → pos (nat_abs (count_of own j)) ≡ count_of own j
    natural zero = refl
    natural (suc j) = refl

-- ---- one place of a table
module _ (period : ℕ) (w : List ℕ) where
  pub replaced-when : (t : ℕ) → is_replaced period w t ≡ true → (get_or w t 0 < full_weight) × (0 < length (neighbours period w t))
  unfolding is_replaced
  replaced-when t e =
      let own = ltb (get_or w t 0) full_weight in
      let some = ltb 0 (length (neighbours period w t)) in
      let both = subst T (sym e) tt in
      (ltb→lt (get_or w t 0) full_weight (left own some both), ltb→lt 0 (length (neighbours period w t)) (right own some both))

  pub counted-range : (t : ℕ) → is_replaced period w t ≡ true → (1 ≤ counted period w t) × (counted period w t ≤ 4999)
  unfolding counted
  counted-range t e = omega (arith, replaced-when t e, neighbours-most period w t)

  -- the denominator of a replaced value divides `common`
  counted-divides : (t : ℕ) → is_replaced period w t ≡ true → counted period w t * (common / counted period w t) ≡ common
  counted-divides t e = in-common (counted period w t) (counted-range t e).0 (counted-range t e).1

  -- the exact mean is the fraction: the counted sum over the count is exact_replaced_at over `common`
  pub mean_is_fraction : (x : List ℤ) (t : ℕ) → is_replaced period w t ≡ true → pos (counted period w t) *ℤ exact_replaced_at period w x t ≡ pos common *ℤ counted_sum period w x t
  unfolding exact_replaced_at
  mean_is_fraction x t e = rw e (scale (counted period w t) (common / counted period w t) (counted_sum period w x t) ∙ ap (λ (m : ℕ). pos m *ℤ counted_sum period w x t) (counted-divides t e))
    where
      scale : (d q : ℕ) (z : ℤ) → pos d *ℤ (pos q *ℤ z) ≡ pos (d * q) *ℤ z
      scale d q z = rw (rep z) (simp ringℤ (omega arith))

  pub stays_exactly : (x : List ℤ) (t : ℕ) → is_replaced period w t ≡ false → exact_replaced_at period w x t ≡ pos common *ℤ (x ‼ t)
  unfolding exact_replaced_at
  stays_exactly x t e = rw e

  within-replaced-at : {b : ℕ} {x : List ℤ} (t : ℕ) → AllWithin b x → replaced_at period w x t within b
  unfolding replaced_at counted_sum counted
  within-replaced-at {b} {x} t h = go (is_replaced period w t) refl
    where
      go : (a : Bool) → is_replaced period w t ≡ a → cond a (to_grain (counted_sum period w x t) (counted period w t)) (x ‼ t) within b
      go true e = rw (← (as_weighted (get_or w t 0) x t (neighbours period w t)))
          (within_mean common (suc (length (neighbours period w t))) (count_of (get_or w t 0)) (λ j. get_or (t ∷ neighbours period w t) j 0)
          (counts-mean (get_or w t 0) (length (neighbours period w t))) (counted-range t e).0 (counted-divides t e) h)
      go false e = h.at t

  close-replaced-at : {b k : ℕ} {x e : List ℤ} (t : ℕ) → Close b k x e → nat_abs (pos (k * common) *ℤ replaced_at period w x t -ℤ exact_replaced_at period w e t) * 1000 ≤ (b + 500) * (k * common)
  unfolding replaced_at exact_replaced_at counted_sum counted
  close-replaced-at {b} {k} {x} {e} t h = go (is_replaced period w t) refl
    where
      go : (a : Bool) → is_replaced period w t ≡ a
          → nat_abs (pos (k * common) *ℤ cond a (to_grain (counted_sum period w x t) (counted period w t)) (x ‼ t)
          -ℤ cond a (pos (common / counted period w t) *ℤ counted_sum period w e t) (pos common *ℤ (e ‼ t))) * 1000 ≤ (b + 500) * (k * common)
      go true i = rw (← (as_weighted (get_or w t 0) x t (neighbours period w t)), ← (as_weighted (get_or w t 0) e t (neighbours period w t)))
          (close_mean common (suc (length (neighbours period w t))) (count_of (get_or w t 0)) (λ j. get_or (t ∷ neighbours period w t) j 0)
          (counts-mean (get_or w t 0) (length (neighbours period w t))) (counted-range t i).0 (counted-divides t i) h)
      go false i = rw (← (at-times common e t)) ((looser {c = b + 500} (close-times common h) (omega arith) refl).close t)

  -- ---- the table
  pub length-replaced-by : (x : List ℤ) → length (replaced_by period w x) ≡ length x
  unfolding replaced_by
  length-replaced-by x = length-tab (length x) (replaced_at period w x)

  -- replaced values are no larger than the largest of the values
  pub within-replaced-by : {b : ℕ} {x : List ℤ} → AllWithin b x → AllWithin b (replaced_by period w x)
  unfolding replaced_by
  within-replaced-by {b} {x} h = tab-within b (length x) (replaced_at period w x) (λ t. within-replaced-at t h)

  -- THE LAW: values within b thousandths are, replaced, within b thousandths and a half grain
  pub close-replaced-by : {b k : ℕ} {x e : List ℤ} → Close b k x e → Close (b + 500) (k * common) (replaced_by period w x) (exact_replaced_by period w e)
  unfolding replaced_by exact_replaced_by
  close-replaced-by {b} {k} {x} {e} h = rw h.long (close-tab (length e) (b + 500) (k * common) (replaced_at period w x) (exact_replaced_at period w e) (λ t. close-replaced-at t h))

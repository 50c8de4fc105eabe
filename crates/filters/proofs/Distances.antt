-- How far a filter's rounded values are from the exact ones.
use mathlib.Core.Path.{◌≡◌, ap, subst, ◌∙◌}
use mathlib.Core.List.{List}
use Prim.Native.Nat.{ℕ, ◌+◌, ◌*◌, ◌-◌, ◌/◌, ◌≤◌, ◌<◌}
use native.Mathlib.Nat.{le_trans, mul-le-mul_left, mul-le-mul_right}
use native.Mathlib.Omega.{arith}
use lib.ListN.{length}
use lib.IntN.{ℤ, pos, nat_abs, ◌+ℤ◌, ◌-ℤ◌, ◌*ℤ◌}
use Rattle.integers.proofs.Differences.{rep, ringℤ}
use Rattle.integers.proofs.SizeLaws.{abs-add, abs-mul}
use Rattle.integers.specs.Lists.{◌‼◌}
use Rattle.integers.specs.Rounding.{to_grain}
use Rattle.integers.proofs.RoundingLaws.{to_grain-near}
use Rattle.integers.specs.Sums.{wsum, norm}
use Rattle.integers.proofs.SumLaws.{wsum-near}
use Rattle.series.specs.Distance.{Close}
use Rattle.series.proofs.Distances.{close-tab}
use Rattle.rows.specs.Table.{Table, row_for, row_weight, denominator}
use Rattle.rows.proofs.RowTests.{Fair}
use Rattle.filters.specs.Filter.{dot, weighted_sum, by_row, exact_by_row, earlier, later, value_at, exact_at, filter, exact, reach, inside, exact_inside}
use Rattle.filters.proofs.Light.{few-earlier, few-later, Light}

-- ---- one place of a filter. R is the rounded value of S / d, and E the exact sum
regroup : (k d q : ℕ) (R S E : ℤ) → pos (k * (d * q)) *ℤ R -ℤ pos q *ℤ E ≡ pos q *ℤ (pos k *ℤ (pos d *ℤ R -ℤ S) +ℤ (pos k *ℤ S -ℤ E))
regroup k d q R S E = rw (rep R, rep S, rep E) (simp ringℤ (omega arith))

-- u is the error of the rounding and v that of the sum, both in units of the denominator d; a is the sum of the weights' sizes
bound : (k d q u v a N b c : ℕ) → 2 * u ≤ d → v * 1000 ≤ a * (b * k) → a * 1000 ≤ N * d → b * N + 500_000 ≤ 1000 * c
    → q * (k * u + v) * 1000 ≤ c * (k * (d * q))
bound k d q u v a N b c hu hv ha hc =
    omega (arith, mul-le-mul_left (k * q) hu, mul-le-mul_left q hv, mul-le-mul_left (b * k * q) ha, mul-le-mul_left (k * d * q) hc)

two_errors : (q k : ℕ) (u v : ℤ) → nat_abs (pos q *ℤ (pos k *ℤ u +ℤ v)) ≤ q * (k * nat_abs u + nat_abs v)
two_errors q k u v = rw (abs-mul (pos q) (pos k *ℤ u +ℤ v)) (mul-le-mul_left q (omega (arith, abs-add (pos k *ℤ u) v, abs-mul (pos k) u)))

close_row : (k d q a N b c : ℕ) (S E : ℤ) → 0 < d → nat_abs (pos k *ℤ S -ℤ E) * 1000 ≤ a * (b * k) → a * 1000 ≤ N * d → b * N + 500_000 ≤ 1000 * c
    → nat_abs (pos (k * (d * q)) *ℤ to_grain S d -ℤ pos q *ℤ E) * 1000 ≤ c * (k * (d * q))
close_row k d q a N b c S E d0 hv ha hc = rw (regroup k d q (to_grain S d) S E) (le_trans
    (mul-le-mul_right 1000 (two_errors q k (pos d *ℤ to_grain S d -ℤ S) (pos k *ℤ S -ℤ E)))
    (bound k d q (nat_abs (pos d *ℤ to_grain S d -ℤ S)) (nat_abs (pos k *ℤ S -ℤ E)) a N b c (to_grain-near S d d0) hv ha hc))

-- ---- THE LAW: values within b thousandths, at whatever places, give weighted sums within c thousandths, where c is b times the weights' norm, and
-- a half
pub close_weighted : {b k : ℕ} {x e : List ℤ} (L N c : ℕ) (m : ℕ) (w : ℕ → ℤ) (p : ℕ → ℕ) (d : ℕ) → Fair L N d (norm m w) → b * N + 500_000 ≤ 1000 * c → Close b k x e
    → nat_abs (pos (k * L) *ℤ to_grain (wsum m w (λ j. x ‼ p j)) d -ℤ pos (L / d) *ℤ wsum m w (λ j. e ‼ p j)) * 1000 ≤ c * (k * L)
close_weighted {b} {k} {x} {e} L N c m w p d f enough h =
    let S = wsum m w (λ j. x ‼ p j) in
    let E = wsum m w (λ j. e ‼ p j) in
    subst (λ (l : ℕ). nat_abs (pos (k * l) *ℤ to_grain S d -ℤ pos (L / d) *ℤ E) * 1000 ≤ c * (k * l)) f.divides
    (close_row k d (L / d) (norm m w) N b c S E f.positive (wsum-near m k 1000 (b * k) w (λ j. x ‼ p j) (λ j. e ‼ p j) (λ j. h.close (p j))) f.light enough)

-- ---- so does a filter, by the norm of its rows
module _ {b k : ℕ} {x e : List ℤ} (F : Table) (L N c : ℕ) (ok : Light L N F) (enough : b * N + 500_000 ≤ 1000 * c) (h : Close b k x e) where
  close-by-row : (m a t : ℕ) → m ≤ F.side → a ≤ F.side → nat_abs (pos (k * L) *ℤ by_row F m a x t -ℤ exact_by_row F L m a e t) * 1000 ≤ c * (k * L)
  unfolding by_row exact_by_row weighted_sum dot
  close-by-row m a t i j = let r = row_for F m a in
      close_weighted L N c (m + 1 + a) (row_weight F r) (λ j. t - m * F.step + j * F.step) (denominator F r) (ok.at m a i j) enough h

  close_at : (t : ℕ) → nat_abs (pos (k * L) *ℤ value_at F 0 (length e) x t -ℤ exact_at F L 0 (length e) e t) * 1000 ≤ c * (k * L)
  unfolding value_at exact_at
  close_at t = close-by-row (earlier F 0 t) (later F (length e) t) t (few-earlier F 0 t) (few-later F (length e) t)

  pub close-filter : Close c (k * L) (filter F x) (exact F L e)
  unfolding filter exact
  close-filter = rw h.long (close-tab (length e) c (k * L) (value_at F 0 (length e) x) (exact_at F L 0 (length e) e) close_at)

  pub close-inside : Close c (k * L) (inside F x) (exact_inside F L e)
  unfolding inside exact_inside
  close-inside = rw h.long
      (close-tab (length e - 2 * reach F) c (k * L) (λ i. value_at F 0 (length e) x (i + reach F)) (λ i. exact_at F L 0 (length e) e (i + reach F)) (λ i. close_at (i + reach F)))

-- ---- the exact value is the fraction: the weighted sum over the denominator is the exact one over L
pub exact-means : (F : Table) (L N b a : ℕ) (x : List ℤ) (t : ℕ) → Light L N F → b ≤ F.side → a ≤ F.side
    → pos (denominator F (row_for F b a)) *ℤ exact_by_row F L b a x t ≡ pos L *ℤ weighted_sum F b a x t
unfolding exact_by_row
exact-means F L N b a x t ok i j =
    scale (denominator F (row_for F b a)) (L / denominator F (row_for F b a)) (weighted_sum F b a x t)
    ∙ ap (λ (m : ℕ). pos m *ℤ weighted_sum F b a x t) (ok.at b a i j).divides
  where
    scale : (d q : ℕ) (z : ℤ) → pos d *ℤ (pos q *ℤ z) ≡ pos (d * q) *ℤ z
    scale d q z = rw (rep z) (simp ringℤ (omega arith))

-- Rows of non-negative weights that sum to one: their norm is 1.
use mathlib.Core.Path.{◌≡◌, refl, ap, ◌∙◌}
use mathlib.Core.Bool.{Bool, true, false, ◌&&◌}
use Prim.Native.Nat.{ℕ, zero, suc, ◌+◌, ◌*◌, ◌/◌, ◌<◌}
use native.Mathlib.Omega.{arith}
use lib.Dec.{T, ltb, eqb, ltb→lt, eqb→eq}
use lib.IntN.{ℤ, pos, negsuc, nat_abs}
use Rattle.integers.specs.Sums.{sum_z, sum_n, norm}
use Rattle.rows.specs.Table.{Table, row_count, row_weight, denominator}
use Rattle.rows.proofs.RowTests.{both, all, all-at, Fair}

-- ---- m weights w over d
pub record Mean (m : ℕ) (w : ℕ → ℤ) (d : ℕ) : Type 0 where
  pub none_below : (j : ℕ) → j < m → pos (nat_abs (w j)) ≡ w j
  pub one : sum_z m w ≡ pos d

norm-is : (m : ℕ) (w : ℕ → ℤ) → ((j : ℕ) → j < m → pos (nat_abs (w j)) ≡ w j) → pos (norm m w) ≡ sum_z m w
unfolding sum_z sum_n
norm-is zero w h = refl
norm-is (suc m) w h = rw (← (norm-is m w (λ j l. h j (omega arith))), ← (h m (omega arith)))

pub mean_fair : (L : ℕ) {m : ℕ} {w : ℕ → ℤ} {d : ℕ} → Mean m w d → 0 < d → d * (L / d) ≡ L → Fair L 1000 d (norm m w)
mean_fair L {m} {w} {d} h p e = record { positive = p; divides = e; light = let n : norm m w ≡ d = ap nat_abs (norm-is m w h.none_below ∙ h.one) in omega (arith, n) }

-- ---- the test of a row
abbrev pub is : ℕ → ℤ → Bool
is d (pos n) = eqb n d
is d (negsuc n) = false

abbrev pub none_below_zero : ℤ → Bool
none_below_zero (pos n) = true
none_below_zero (negsuc n) = false

abbrev pub mean : ℕ → Table → ℕ → Bool
mean L F r =
    let d = denominator F r in
    let m = 2 * F.side + 1 in
    (ltb 0 d && eqb (d * (L / d)) L) && (all m (λ k. none_below_zero (row_weight F r k)) && is d (sum_z m (row_weight F r)))

abbrev pub AllMeans : ℕ → Table → Type 0
AllMeans L F = T (all (row_count F) (mean L F))

is_so : (d : ℕ) (z : ℤ) → T (is d z) → z ≡ pos d
is_so d (pos n) t = ap pos (eqb→eq n d t)
is_so d (negsuc n) t = absurd t

not-below : (z : ℤ) → T (none_below_zero z) → pos (nat_abs z) ≡ z
not-below (pos n) t = refl
not-below (negsuc n) t = absurd t

pub mean-row : (F : Table) (L r : ℕ) → T (mean L F r) → Fair L 1000 (denominator F r) (norm (2 * F.side + 1) (row_weight F r))
mean-row F L r t =
    let m = 2 * F.side + 1 in
    let w = row_weight F r in
    let parts = both _ (all m (λ k. none_below_zero (w k)) && is (denominator F r) (sum_z m w)) t in
    let over = both _ _ parts.0 in
    let weights = both (all m (λ k. none_below_zero (w k))) _ parts.1 in
    mean_fair L (record { none_below = λ j l. not-below (w j) (all-at m (λ k. none_below_zero (w k)) weights.0 j l); one = is_so _ (sum_z m w) weights.1 }) (ltb→lt _ _ over.0) (eqb→eq _ _ over.1)

-- A rule of a whole table: one test that is computed over its rows, and what it shows of each row.
use mathlib.Core.Path.{◌≡◌, sym, subst}
use mathlib.Core.Logic.{⊎_elim}
use mathlib.Core.Bool.{Bool, true, false, ◌&&◌}
use Prim.Native.Nat.{ℕ, zero, suc, ◌+◌, ◌*◌, ◌/◌, ◌≤◌, ◌<◌}
use native.Mathlib.Nat.{eq-or-lt_of_le, not-suc-le-zero, le_of_suc-le-suc}
use lib.Dec.{T, ltb, leb, eqb, leb→le, ltb→lt, eqb→eq}
use Rattle.integers.specs.Sums.{norm}
use Rattle.rows.specs.Table.{Table, row_count, row_weight, denominator}

pub left : (a b : Bool) → T (a && b) → T a
left true b t = tt
left false b t = t

pub right : (a b : Bool) → T (a && b) → T b
right true b t = t
right false b t = absurd t

pub both : (a b : Bool) → T (a && b) → T a × T b
both a b t = (left a b t, right a b t)

-- ---- a test of every number below n
abbrev pub all : ℕ → (ℕ → Bool) → Bool
all zero p = true
all (suc n) p = all n p && p n

pub all-at : (n : ℕ) (p : ℕ → Bool) → T (all n p) → (k : ℕ) → k < n → T (p k)
all-at zero p t k h = absurd (not-suc-le-zero h)
all-at (suc n) p t k h =
    ⊎_elim (λ e. subst (λ (m : ℕ). T (p m)) (sym e) (right _ _ t)) (λ l. all-at n p (left _ _ t) k l) (eq-or-lt_of_le (le_of_suc-le-suc h))

-- ---- the test of a row: its denominator divides L, and the sizes of its weights sum to at most N thousandths of it
abbrev pub fair : ℕ → ℕ → Table → ℕ → Bool
fair L N F r =
    ltb 0 (denominator F r)
    && (eqb (denominator F r * (L / denominator F r)) L && leb (norm (2 * F.side + 1) (row_weight F r) * 1000) (N * denominator F r))

abbrev pub AllFair : ℕ → ℕ → Table → Type 0
AllFair L N F = T (all (row_count F) (fair L N F))

-- what the test shows of a row with denominator d, the sizes of its weights, or of the first of them, summing to a
pub record Fair (L N d a : ℕ) : Type 0 where
  pub positive : 0 < d
  pub divides : d * (L / d) ≡ L
  pub light : a * 1000 ≤ N * d

pub fair-row : (F : Table) (L N r : ℕ) → T (fair L N F r) → Fair L N (denominator F r) (norm (2 * F.side + 1) (row_weight F r))
fair-row F L N r t = let rest = both _ _ (right _ _ t) in record { positive = ltb→lt _ _ (left _ _ t); divides = eqb→eq _ _ rest.0; light = leb→le _ _ rest.1 }

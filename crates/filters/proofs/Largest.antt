-- How large a filter's values are.
use mathlib.Core.List.{List}
use Prim.Native.Nat.{ℕ, ◌+◌, ◌*◌, ◌-◌, ◌≤◌}
use native.Mathlib.Nat.{mul-le-mul_left, mul-le-mul_right, le_of_mul-le-mul_left}
use native.Mathlib.Omega.{arith}
use lib.ListN.{length}
use lib.IntN.{ℤ}
use Rattle.integers.specs.Sizes.{◌within◌}
use Rattle.integers.specs.Lists.{◌‼◌, AllWithin}
use Rattle.integers.proofs.FillingLaws.{tab-within}
use Rattle.integers.specs.Rounding.{to_grain}
use Rattle.integers.proofs.RoundingLaws.{to_grain-size}
use Rattle.integers.specs.Sums.{wsum, norm}
use Rattle.integers.proofs.SumLaws.{wsum-within}
use Rattle.rows.specs.Table.{Table, row_for, row_weight, denominator}
use Rattle.rows.proofs.RowTests.{Fair}
use Rattle.filters.specs.Filter.{dot, weighted_sum, by_row, earlier, later, value_at, filter, reach, inside}
use Rattle.filters.proofs.Light.{few-earlier, few-later, Light}

-- a weighted sum of numbers within b, with weights that sum to at most N thousandths of d, is within c times d
light-sum : (S d a N b c : ℕ) → S ≤ a * b → a * 1000 ≤ N * d → N * b ≤ 1000 * c → S ≤ d * c
light-sum S d a N b c hs ha hc =
    let e : 1000 * S ≤ 1000 * (d * c) = omega (arith, mul-le-mul_right b ha, mul-le-mul_left d hc, mul-le-mul_left 1000 hs) in
    le_of_mul-le-mul_left e (omega arith)

-- numbers within b are, weighted, within b times the weights' norm
pub within_weighted : {b : ℕ} {x : List ℤ} (L N c : ℕ) (m : ℕ) (w : ℕ → ℤ) (p : ℕ → ℕ) (d : ℕ) → Fair L N d (norm m w) → N * b ≤ 1000 * c → AllWithin b x
    → to_grain (wsum m w (λ j. x ‼ p j)) d within c
within_weighted {b} {x} L N c m w p d f enough h = to_grain-size (wsum m w (λ j. x ‼ p j)) d c f.positive
    (light-sum _ d (norm m w) N b c (wsum-within m w (λ j. x ‼ p j) b (λ j l. h.at (p j))).abs f.light enough)

-- so are they, filtered, by the norm of the rows
module _ {b : ℕ} {x : List ℤ} (F : Table) (L N c : ℕ) (ok : Light L N F) (enough : N * b ≤ 1000 * c) (h : AllWithin b x) where
  within-at : (t : ℕ) → value_at F 0 (length x) x t within c
  unfolding value_at by_row weighted_sum dot
  within-at t =
      let m = earlier F 0 t in
      let a = later F (length x) t in
      let r = row_for F m a in
      within_weighted L N c (m + 1 + a) (row_weight F r) (λ j. t - m * F.step + j * F.step) (denominator F r)
      (ok.at m a (few-earlier F 0 t) (few-later F (length x) t)) enough h

  pub within-filter : AllWithin c (filter F x)
  unfolding filter
  within-filter = tab-within c (length x) (value_at F 0 (length x) x) within-at

  pub within-inside : AllWithin c (inside F x)
  unfolding inside
  within-inside = tab-within c (length x - 2 * reach F) (λ i. value_at F 0 (length x) x (i + reach F)) (λ i. within-at (i + reach F))

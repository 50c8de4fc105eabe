-- Laws of weights and corrections.
use Prim.Native.Nat.{ℕ, ◌+◌, ◌*◌, ◌-◌, ◌/◌, ◌≤◌, ◌<◌}
use mathlib.Core.Path.{◌≡◌, refl, ◌∙◌}
use mathlib.Core.Bool.{Bool, true, false, cond}
use mathlib.Core.List.{List}
use native.Mathlib.Nat.{mul-le-mul, le-div_iff_mul-le, div-lt_iff_lt-mul}
use native.Mathlib.Omega.{arith}
use lib.Dec.{ltb, eqb}
use lib.ListN.{length}
use lib.IntN.{ℤ, pos, nat_abs, ◌*ℤ◌}
use borrow.Author.Tests.{ltb-false, eqb-false}
use Rattle.integers.specs.Sizes.{◌within◌}
use Rattle.integers.specs.Rounding.{half_up}
use Rattle.integers.proofs.SizeLaws.{abs-mul}
use Rattle.integers.proofs.RoundingLaws.{to_grain-size}
use Rattle.integers.proofs.FillingLaws.{length-tab, tab-each}
use Rattle.refusals.specs.Limits.{full_weight}
use Rattle.extremes.specs.Spreads.{sizes_of}
use Rattle.extremes.specs.Weighing.{weight, weight_by, month_weight, weights_by, weights_of, NoneAboveFull, correction_of}
use Rattle.extremes.proofs.HeldSizes.{length-sizes_of}

-- ---- a weight is at most 1,000
-- the quotient is from 1,500 to 2,500 where it is taken
pub quotient_most : (σ a : ℕ) → 0 < σ → 2 * a ≤ 5 * σ → half_up (full_weight * a) σ ≤ 2500
unfolding half_up
quotient_most σ a h k = let l : (2 * (full_weight * a) + σ) / (2 * σ) < 2501 = (div-lt_iff_lt-mul {k = 2 * σ} (omega arith)).1 (omega arith) in omega arith

quotient_least : (σ a : ℕ) → 0 < σ → 3 * σ ≤ 2 * a → 1500 ≤ half_up (full_weight * a) σ
unfolding half_up
quotient_least σ a h k = (le-div_iff_mul-le {k = 2 * σ} (omega arith)).1 (omega arith)

cond-most : (b : Bool) {m n : ℕ} → m ≤ full_weight → (b ≡ false → n ≤ full_weight) → cond b m n ≤ full_weight
cond-most true h k = h
cond-most false h k = k refl

weight-most : (σ a : ℕ) → weight σ a ≤ full_weight
unfolding weight
weight-most σ a =
    cond-most (eqb σ 0) (cond-most (eqb a 0) (omega arith) (λ e. omega arith)) (λ e.
    cond-most (ltb (5 * σ) (2 * a)) (omega arith) (λ f.
    cond-most (ltb (2 * a) (3 * σ)) (omega arith) (λ g.
    omega (arith, quotient_least σ a (positive (eqb-false σ 0 e)) (ltb-false (2 * a) (3 * σ) g)))))
  where
    positive : (σ ≡ 0 → ⊥) → 0 < σ
    positive h = omega arith

-- ---- the weights of an irregular: as many as it has months, none above 1,000
pub length-weights : (start period : ℕ) (x : List ℤ) → length (weights_of start period x) ≡ length x
unfolding weights_of weights_by
length-weights start period x = length-tab _ (month_weight start period (sizes_of x)) ∙ length-sizes_of x

pub weights-most : NoneAboveFull
unfolding weights_of weights_by month_weight weight_by
weights-most start period x = tab-each (λ (w : ℕ). w ≤ full_weight) 0 (length (sizes_of x)) (month_weight start period (sizes_of x)) (omega arith) (λ t. weight-most _ _)

-- ---- a correction is no larger than the irregular
pub correction_within : (z : ℤ) (w : ℕ) {b : ℕ} → z within b → correction_of z w within b
unfolding correction_of
correction_within z w {b} h =
    let m : nat_abs z * (full_weight - w) ≤ b * full_weight = mul-le-mul h.abs (omega arith) in
    to_grain-size (z *ℤ pos (full_weight - w)) full_weight b (omega arith) (omega (arith, abs-mul z (pos (full_weight - w))))

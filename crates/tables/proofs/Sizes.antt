-- How long the tables of the three passes are, and how large, where no figure is outside its limits.
use mathlib.Core.Path.{◌≡◌, ◌∙◌}
use mathlib.Core.List.{List}
use Prim.Native.Nat.{ℕ, ◌+◌, ◌*◌, ◌-◌, ◌≤◌}
use native.Mathlib.Omega.{arith}
use lib.ListN.{length, get_or}
use lib.IntN.{ℤ}
use Rattle.integers.specs.Lists.{◌‼◌, AllWithin}
use Rattle.integers.proofs.FillingLaws.{tab-within}
use Rattle.refusals.specs.Limits.{unit, largest_figure}
use Rattle.series.specs.Operations.{minus}
use Rattle.series.proofs.Lengths.{length-minus, length-times}
use Rattle.series.proofs.Largest.{within-minus, within-times}
use Rattle.steps.specs.Choices.{Choices, plain_monthly}
use Rattle.steps.specs.Steps.{SI1, inner_s1, T2, SI2, S2}
use Rattle.steps.proofs.Sound.{Sound, monthly-sound}
use Rattle.steps.proofs.Largest as pass
use Rattle.steps.proofs.Lengths.{length-si1, length-t2, length-si2, length-s2}
use Rattle.extremes.specs.Weighing.{correction_of}
use Rattle.extremes.proofs.WeighingLaws.{correction_within}
use Rattle.tables.specs.PassB.{irregular_b4, choices_b4, irregular_b9}
use Rattle.tables.specs.Tables.{choices_c, irregular_of, corrections, B1, B7, B10, B13, B20, C1, C7, C10, C13, C20, D1}
use Rattle.tables.specs.Bounds.{largest_b1, largest_b7, largest_c1, largest_c7, largest_c10, largest_c13, largest_d1}

-- ---- what a seasonal and a trend leave, and its corrections
pub length-irregular : (b1 s t : List ℤ) → length (irregular_of b1 s t) ≡ length b1
unfolding irregular_of
length-irregular b1 s t = length-minus (minus b1 s) t ∙ length-minus b1 s

pub within_irregular : {a b c : ℕ} {b1 s t : List ℤ} → AllWithin a b1 → AllWithin b s → AllWithin c t → AllWithin (a + b + c) (irregular_of b1 s t)
unfolding irregular_of
within_irregular h k l = within-minus (within-minus h k) l

within-corrections : {b : ℕ} {z : List ℤ} (w : List ℕ) → AllWithin b z → AllWithin b (corrections z w)
unfolding corrections
within-corrections {b} {z} w h = tab-within b (length z) (λ t. correction_of (z ‼ t) (get_or w t 0)) (λ t. correction_within (z ‼ t) (get_or w t 0) (h.at t))

-- ---- how long
-- what the preliminary seasonals of pass B leave
pub length-irregular_b4 : (x : List ℤ) → length (irregular_b4 x) ≡ length x - 12
unfolding irregular_b4
length-irregular_b4 x = length-minus (SI1 plain_monthly x) (inner_s1 plain_monthly x) ∙ length-si1 plain_monthly x

pub length-irregular_b9 : (start : ℕ) (x : List ℤ) → length (irregular_b9 start x) ≡ length x
unfolding irregular_b9
length-irregular_b9 start x = length-minus (SI2 (choices_b4 start x) x) (S2 (choices_b4 start x) x) ∙ length-si2 (choices_b4 start x) x

module _ (start : ℕ) (f : List ℤ) where
  pub length-b1 : length (B1 start f) ≡ length f
  unfolding B1
  length-b1 = length-times unit f

  pub length-b13 : length (B13 start f) ≡ length f
  unfolding B13
  length-b13 = length-irregular (B1 start f) (B10 start f) (B7 start f) ∙ length-b1

  pub length-c1 : length (C1 start f) ≡ length f
  unfolding C1
  length-c1 = length-minus (B1 start f) (B20 start f) ∙ length-b1

  pub length-c7 : length (C7 start f) ≡ length f
  unfolding C7
  length-c7 = length-t2 choices_c (C1 start f) ∙ length-c1

  pub length-c10 : length (C10 start f) ≡ length f
  unfolding C10
  length-c10 = length-s2 choices_c (C1 start f) ∙ length-c1

  pub length-c13 : length (C13 start f) ≡ length f
  unfolding C13
  length-c13 = length-irregular (B1 start f) (C10 start f) (C7 start f) ∙ length-b1

  pub length-d1 : length (D1 start f) ≡ length f
  unfolding D1
  length-d1 = length-minus (B1 start f) (C20 start f) ∙ length-b1

-- ---- how large
module _ (start : ℕ) {f : List ℤ} (h : AllWithin largest_figure f) where
  pub within_b1 : AllWithin largest_b1 (B1 start f)
  unfolding B1
  within_b1 = within-times unit f h

  -- what a pass on x leaves of B1, where x is at most b and T2 at most t; and B1 less its corrections
  within_left : {c : Choices} → Sound c → {b : ℕ} {x : List ℤ} → AllWithin b x → (t : ℕ) → 13 * b ≤ 2 * t
      → AllWithin (largest_b1 + (2 * b + 2 * t) + t) (irregular_of (B1 start f) (S2 c x) (T2 c x))
  within_left ok k t i = within_irregular within_b1 (pass.s2 ok k t i) (pass.t2 ok k t i)

  within_corrected : {b : ℕ} {z : List ℤ} → AllWithin b z → (w : List ℕ) → AllWithin (largest_b1 + b) (minus (B1 start f) (corrections z w))
  within_corrected h w = within-minus within_b1 (within-corrections w h)

  pub within_c1 : AllWithin largest_c1 (C1 start f)
  unfolding C1 B20 B13 B10 B7
  within_c1 = within_corrected (within_left (monthly-sound _ _ _) within_b1 largest_b7 (omega arith)) _

  pub within_c7 : AllWithin largest_c7 (C7 start f)
  unfolding C7
  within_c7 = pass.t2 (monthly-sound _ _ _) within_c1 largest_c7 (omega arith)

  pub within_c10 : AllWithin largest_c10 (C10 start f)
  unfolding C10
  within_c10 = pass.s2 (monthly-sound _ _ _) within_c1 largest_c7 (omega arith)

  pub within_c13 : AllWithin largest_c13 (C13 start f)
  unfolding C13 C10 C7
  within_c13 = within_left (monthly-sound _ _ _) within_c1 largest_c7 (omega arith)

  pub within_d1 : AllWithin largest_d1 (D1 start f)
  unfolding D1 C20
  within_d1 = within_corrected within_c13 _

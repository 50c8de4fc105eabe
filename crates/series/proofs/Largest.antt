-- How large the numbers are: one law for each operation.
use mathlib.Core.Path.{subst⁻¹}
use mathlib.Core.List.{List}
use Prim.Native.Nat.{ℕ, ◌+◌, ◌*◌, ◌≤◌}
use native.Mathlib.Decide.{dec_le}
use native.Mathlib.Omega.{arith}
use lib.ListN.{length, take, length-take, get_or-eq_default}
use lib.Seq.{get_or-take}
use lib.IntN.{ℤ, pos, ◌-ℤ◌}
use Rattle.integers.specs.Sizes.{◌within◌}
use Rattle.integers.proofs.SizeLaws.{w-, w*, w_lit, w≤, by-abs}
use Rattle.integers.specs.Lists.{◌‼◌, AllWithin}
use Rattle.integers.proofs.FillingLaws.{tab-within}
use Rattle.series.specs.Operations.{minus, times, pick}
use Rattle.series.proofs.Lengths.{at-times}

pub larger : {b c : ℕ} {x : List ℤ} → AllWithin b x → b ≤ c → AllWithin c x
larger h l = record { at = λ t. w≤ (h.at t) l }

-- the first m numbers
pub within_front : {b : ℕ} {x : List ℤ} (m : ℕ) → AllWithin b x → AllWithin b (take m x)
within_front {b} {x} m h = record { at = λ t. go t (dec_le (t + 1) m) }
  where
    go : (t : ℕ) → Dec (t + 1 ≤ m) → (take m x ‼ t) within b
    go t (yes l) = subst⁻¹ (λ (z : ℤ). z within b) (get_or-take m x t (pos 0) (omega arith)) (h.at t)
    go t (no l) = subst⁻¹ (λ (z : ℤ). z within b) (get_or-eq_default (take m x) (pos 0) (omega (arith, length-take m x))) (by-abs (omega arith))

pub within-pick : {b : ℕ} {x : List ℤ} (n : ℕ) (g : ℕ → ℕ) → AllWithin b x → AllWithin b (pick n g x)
unfolding pick
within-pick {b} {x} n g h = tab-within b n (λ t. x ‼ g t) (λ t. h.at (g t))

pub within-minus : {b c : ℕ} {x y : List ℤ} → AllWithin b x → AllWithin c y → AllWithin (b + c) (minus x y)
unfolding minus
within-minus {b} {c} {x} {y} h k = tab-within (b + c) (length x) (λ t. (x ‼ t) -ℤ (y ‼ t)) (λ t. w- (h.at t) (k.at t))

pub within-times : {b : ℕ} (k : ℕ) (x : List ℤ) → AllWithin b x → AllWithin (k * b) (times k x)
within-times {b} k x h = record { at = λ t. rw (at-times k x t) (w* (w_lit k) (h.at t)) }

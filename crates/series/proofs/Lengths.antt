-- How long the series are that an operation makes, and what stands in them.
use mathlib.Core.Path.{◌≡◌, refl, ap}
use mathlib.Core.List.{List, [], ◌∷◌}
use Prim.Native.Nat.{ℕ, zero, suc, ◌<◌, ◌≤◌}
use native.Mathlib.Omega.{arith}
use lib.ListN.{length, take}
use lib.Seq.{length-take-le}
use Rattle.std.specs.Prelude.{replicate}
use Rattle.std.proofs.lemmas.List.{get_or-replicate, length-replicate}
use lib.IntN.{ℤ, pos, ◌-ℤ◌, ◌*ℤ◌}
use Rattle.integers.specs.Lists.{◌‼◌, tab}
use Rattle.integers.proofs.FillingLaws.{length-tab, at-tab, tab-same}
use Rattle.series.specs.Operations.{minus, times, pick}

pub length-minus : (x y : List ℤ) → length (minus x y) ≡ length x
unfolding minus
length-minus x y = length-tab (length x) _

pub at-minus : (x y : List ℤ) (t : ℕ) → t < length x → minus x y ‼ t ≡ (x ‼ t) -ℤ (y ‼ t)
unfolding minus
at-minus x y t h = at-tab (pos 0) (length x) (λ i. (x ‼ i) -ℤ (y ‼ i)) t h

pub length-times : (m : ℕ) (e : List ℤ) → length (times m e) ≡ length e
unfolding times
length-times m [] = refl
length-times m (z ∷ zs) = ap suc (length-times m zs)

pub at-times : (m : ℕ) (e : List ℤ) (t : ℕ) → times m e ‼ t ≡ pos m *ℤ (e ‼ t)
unfolding times
at-times m [] t = ap pos (omega arith)
at-times m (z ∷ zs) zero = refl
at-times m (z ∷ zs) (suc t) = at-times m zs t

pub length-pick : (n : ℕ) (g : ℕ → ℕ) (x : List ℤ) → length (pick n g x) ≡ n
unfolding pick
length-pick n g x = length-tab n _

-- as std writes a front that is filled with 0
pub zeros : (n : ℕ) (x : List ℤ) → n ≤ length x → replicate (length (take n x)) (pos 0) ≡ tab n (λ _. pos 0)
zeros n x h = let e : length (take n x) ≡ n = length-take-le n x h in
    rw e (tab-same (pos 0) n (λ _. pos 0) (replicate n (pos 0)) (length-replicate n (pos 0)) (λ i l. get_or-replicate n i (pos 0) (pos 0) l))

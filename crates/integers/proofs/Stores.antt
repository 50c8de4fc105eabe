-- Elements stored in a slice from a place on, one part after the other.
use Prim.Native.Nat.{ℕ, suc, ◌+◌}
use mathlib.Core.Path.{◌≡◌}
use mathlib.Core.List.{List, [], ◌∷◌, ◌++◌}
use native.Mathlib.Omega.{arith}
use lib.ListN.{length}
use lib.Seq.{sets}

pub sets-append : {A : Type 0} (l : List A) (i j : ℕ) (vs ws : List A) → j ≡ i + length vs → sets l i (vs ++ ws) ≡ sets (sets l i vs) j ws
sets-append l i j [] ws h = let e : j ≡ i = omega arith in rw e
sets-append l i j (v ∷ vs) ws h = sets-append _ (suc i) j vs ws (omega arith)

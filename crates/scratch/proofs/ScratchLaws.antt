-- What the working leaves in the scratch plays no part once it is zeroed.
use Prim.Native.Nat.{ℕ, ◌≤◌}
use mathlib.Core.Path.{◌≡◌, ap}
use mathlib.Core.List.{List, ◌++◌}
use native.Mathlib.Omega.{arith}
use lib.ListN.{length, take, drop}
use lib.IntN.{ℤ, pos}
use Rattle.integers.specs.Lists.{tab}
use Rattle.integers.proofs.Fronts.{front_rest}
use Rattle.scratch.specs.Scratch.{scratch_for, zeroed}

-- x is what the passes leave in the first n entries
pub front-zeroed : (n : ℕ) (scratch : List ℤ) → n ≤ length scratch → (x : List ℤ) → length x ≡ length (take n scratch) → zeroed n (x ++ drop n scratch) ≡ zeroed n scratch
front-zeroed n scratch room x same = ap (λ (l : List ℤ). tab (scratch_for n) (λ _. pos 0) ++ l) (front_rest n scratch room x same (scratch_for n) (omega arith))

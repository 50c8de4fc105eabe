use Prim.Native.Nat.{ℕ, ◌+◌, ◌<◌}
use mathlib.Core.Path.{◌≡◌, refl}
use mathlib.Core.List.{List}
use native.Mathlib.Decide.{ℕ_discrete}
use native.Mathlib.Omega.{arith}
use lib.ListN.{length, set}
use lib.Seq.{get_or-set_same, get_or-set_other}
use lib.IntN.{ℤ, pos}
use Rattle.integers.specs.Lists.{◌‼◌}
use Rattle.integers.proofs.Signed64.{kept}
use Rattle.figures.proofs.fill.Goals as goal

-- one entry more
more : (P : ℕ → ℤ → Type 0) (l : List ℤ) (t : ℕ) (v z : ℤ) → t < length l → v ≡ z → P t z → ((k : ℕ) → k < t → P k (l ‼ k)) → (k : ℕ) → k < t + 1 → P k (set l t v ‼ k)
more P l t v z h e p below k m = go (ℕ_discrete k t)
  where
    go : Dec (k ≡ t) → P k (set l t v ‼ k)
    go (yes q) = rw q (rw (get_or-set_same l t v (pos 0) h, e) p)
    go (no q) = rw (get_or-set_other l t k v (pos 0) q) (below k (omega arith))

pub loop-t-preserved : goal.loop-t-preserved
loop-t-preserved g c = more (λ k z. goal.F-post g c.args.number k z) c.loop-t.out c.loop-t.t _ c.number.result (omega arith) (kept c.number.type_inv refl) c.number.ensures c.loop-t.invariant

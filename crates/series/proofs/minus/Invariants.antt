-- `series::minus` meets its contract: each entry below t is the difference there.
use Prim.Native.Nat.{◌≤◌, ◌-◌}
use Rattle.integers.specs.Filling.{Filled}
use Rattle.integers.specs.Lists.{◌‼◌}
use lib.IntN.{◌-ℤ◌, pos}
use lib.ListN.{length}
use mathlib.Core.Path.{◌≡◌}
use Rattle.series.proofs.minus.Given as goal

abbrev pub invariant-loop-t : goal.invariant-loop-t
invariant-loop-t l = (l.t ≤ l.t-end) × (l.t-end ≡ length l.x) × Filled (pos 0) (λ k. (l.x ‼ k) -ℤ (l.y ‼ k)) 0 l.t l.initial.out l.out

abbrev pub decreases-loop-t : goal.decreases-loop-t
decreases-loop-t l = l.t-end - l.t

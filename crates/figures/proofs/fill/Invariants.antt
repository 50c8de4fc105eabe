-- `figures::fill` meets its contract: each entry below t is what the closure gave.
use Prim.Native.Nat.{ℕ, ◌<◌}
use Rattle.integers.specs.Lists.{◌‼◌}
use Rattle.figures.proofs.fill.Given as goal

abbrev pub invariant-loop-t : goal.invariant-loop-t
invariant-loop-t g l = (k : ℕ) → k < l.t → goal.F-post g l.number k (l.out ‼ k)

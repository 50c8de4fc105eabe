-- `extremes::spreads::MonthSizes::next_above` meets its contract: no month before the one that is read is dropped.
use Prim.Native.Nat.{◌≤◌, ◌-◌}
use mathlib.Core.Path.{◌≡◌}
use Rattle.extremes.specs.Years.{months}
use Rattle.extremes.specs.Promises.{dropped}
use Rattle.extremes.proofs.spreads.MonthSizes.next_above.Given as goal

abbrev pub invariant-loop-k : goal.invariant-loop-k
invariant-loop-k l = (l.t ≤ l.k) × (l.k ≤ l.hi) × (dropped l.limit (months l.t l.hi l.self.sizes) ≡ dropped l.limit (months l.k l.hi l.self.sizes))

abbrev pub decreases-loop-k : goal.decreases-loop-k
decreases-loop-k l = l.hi - l.k

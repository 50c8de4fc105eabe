-- `extremes::spreads::MonthSizes::fill_weights` meets its contract: the months passed have their weights by this spread.
use Prim.Native.Nat.{◌≤◌, ◌-◌}
use Rattle.integers.specs.Filling.{Filled}
use Rattle.extremes.specs.Weighing.{weight_by}
use Rattle.extremes.proofs.spreads.MonthSizes.fill_weights.Given as goal

abbrev pub invariant-loop-t : goal.invariant-loop-t
invariant-loop-t l = (l.lo ≤ l.t) × (l.t ≤ l.hi) × Filled 0 (weight_by l.spread l.self.sizes) l.lo l.t l.initial.out l.out

abbrev pub decreases-loop-t : goal.decreases-loop-t
decreases-loop-t l = l.hi - l.t

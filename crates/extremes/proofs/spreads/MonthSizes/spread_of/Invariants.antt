-- `extremes::spreads::MonthSizes::spread_of` meets its contract: what is left of the sum and the count is what stays, with the months still to be dropped.
use Prim.Native.Nat.{◌-◌}
use Rattle.extremes.specs.Years.{months}
use Rattle.extremes.proofs.SpreadLaws.{Dropping}
use Rattle.extremes.proofs.spreads.MonthSizes.spread_of.Given as goal

abbrev pub invariant-loop-t : goal.invariant-loop-t
invariant-loop-t l = Dropping l.limit l.hi l.self.sizes (months l.lo l.hi l.self.sizes) l.t l.sum l.count

abbrev pub decreases-loop-t : goal.decreases-loop-t
decreases-loop-t l = l.hi - l.t

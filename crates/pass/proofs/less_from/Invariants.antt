-- `pass::less_from` meets its contract: each entry from lo to below t is the difference there.
use Prim.Native.Nat.{◌≤◌, ◌-◌}
use lib.IntN.{pos, ◌-ℤ◌}
use Rattle.integers.specs.Lists.{◌‼◌}
use Rattle.integers.specs.Filling.{Filled}
use Rattle.pass.specs.Promises.{along}
use Rattle.pass.proofs.less_from.Given as goal

abbrev pub invariant-loop-t : goal.invariant-loop-t
invariant-loop-t l = (l.lo ≤ l.t) × (l.t ≤ l.hi) × Filled (pos 0) (λ k. (l.r ‼ k) -ℤ (l.m ‼ along l.i l.step l.lo k)) l.lo l.t l.initial.out l.out

abbrev pub decreases-loop-t : goal.decreases-loop-t
decreases-loop-t l = l.hi - l.t

-- `extremes::spreads::MonthSizes::weigh` meets its contract: the months that the groups passed serve have their weights.
use Prim.Native.Nat.{◌+◌, ◌-◌, ◌≤◌}
use mathlib.Core.Path.{◌≡◌}
use Rattle.integers.specs.Filling.{Filled}
use Rattle.extremes.specs.Years.{years}
use Rattle.extremes.specs.Weighing.{month_weight}
use Rattle.extremes.specs.Promises.{served_from}
use Rattle.extremes.proofs.spreads.MonthSizes.weigh.Given as goal

abbrev pub invariant-loop-c : goal.invariant-loop-c
invariant-loop-c l = let y = l.self.years in
    (2 ≤ l.c) × (l.c ≤ l.last + 1) × (l.last ≡ years y.start y.period y.months - 3) × Filled 0 (month_weight y.start y.period l.self.sizes) 0 (served_from y.start y.period y.months l.last l.c) l.initial.out l.out

abbrev pub decreases-loop-c : goal.decreases-loop-c
decreases-loop-c l = l.last + 1 - l.c

-- `filters::fill_end` meets its contract: the months with as many values after them, and with more, are filled.
use Prim.Native.Nat.{◌-◌, ◌*◌}
use lib.IntN.{pos}
use Rattle.integers.specs.Filling.{Filled}
use Rattle.filters.specs.Filter.{value_at}
use Rattle.filters.specs.Promises.{table_of}
use Rattle.filters.proofs.fill_end.Given as goal

abbrev pub invariant-loop-later : goal.invariant-loop-later
invariant-loop-later l = Filled (pos 0) (value_at (table_of l.f) l.first l.past l.x) (l.past - l.f.side * l.f.step) (l.past - l.later * l.f.step) l.initial.out l.out

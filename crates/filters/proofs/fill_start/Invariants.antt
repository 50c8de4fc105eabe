-- `filters::fill_start` meets its contract: the months with fewer values before them are filled.
use Prim.Native.Nat.{◌+◌, ◌*◌}
use lib.IntN.{pos}
use Rattle.integers.specs.Filling.{Filled}
use Rattle.filters.specs.Filter.{value_at}
use Rattle.filters.specs.Promises.{table_of}
use Rattle.filters.proofs.fill_start.Given as goal

abbrev pub invariant-loop-earlier : goal.invariant-loop-earlier
invariant-loop-earlier l = Filled (pos 0) (value_at (table_of l.f) l.first l.past l.x) l.first (l.first + l.earlier * l.f.step) l.initial.out l.out

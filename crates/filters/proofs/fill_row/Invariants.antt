-- `filters::fill_row` meets its contract: each entry from lo to below t is the filter's value there.
use Prim.Native.Nat.{◌≤◌}
use lib.IntN.{pos}
use Rattle.integers.specs.Filling.{Filled}
use Rattle.filters.specs.Filter.{by_row}
use Rattle.filters.specs.Promises.{table_of}
use Rattle.filters.proofs.fill_row.Given as goal

abbrev pub invariant-loop-t : goal.invariant-loop-t
invariant-loop-t l = (l.lo ≤ l.t) × (l.t ≤ l.hi) × Filled (pos 0) (by_row (table_of l.f) l.earlier l.later l.x) l.lo l.t l.initial.out l.out

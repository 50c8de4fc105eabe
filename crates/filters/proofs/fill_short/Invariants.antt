-- `filters::fill_short` meets its contract: each month below t has the filter's value there, by the row for its counts.
use Prim.Native.Nat.{◌≤◌}
use lib.IntN.{pos}
use Rattle.integers.specs.Filling.{Filled}
use Rattle.filters.specs.Filter.{value_at}
use Rattle.filters.specs.Promises.{table_of}
use Rattle.filters.proofs.fill_short.Given as goal

abbrev pub invariant-loop-t : goal.invariant-loop-t
invariant-loop-t l =
    (l.first ≤ l.t) × (l.t ≤ l.past) × Filled (pos 0) (value_at (table_of l.f) l.first l.past l.x) l.first l.t l.initial.out l.out

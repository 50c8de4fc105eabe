-- `desk_arrays::put` meets its contract: the values before the place that is next are stored.
use mathlib.Core.Path.{◌≡◌}
use Rattle.desk_arrays.proofs.ArrayLaws.{Stored}
use Rattle.desk_arrays.proofs.put.Given as goal

abbrev pub invariant-loop-i : goal.invariant-loop-i
invariant-loop-i g l =
    let e = g.E.Entry in
    record {
      can : (goal.iterator-loop-i g).can_next l.i-iterator;
      ends : (goal.iterator-loop-i g).is_finite l.i-iterator;
      chart : l.i-iterator.chart ≡ l.fn.chart;
      stored : Stored e.zero e.BYTES e.code l.fn.chart.period l.fn.chart.start l.fn.values l.fn.from l.initial.out l.i-iterator.place l.out;
    }

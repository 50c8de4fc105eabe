-- `desk_arrays::first_bad` meets its contract: of the months before the place that is next, the lowest whose entry is bad is kept.
use Prim.Native.Nat.{◌+◌, ◌*◌}
use mathlib.Core.Path.{◌≡◌}
use Rattle.little_endian.specs.Bytes.{number_at}
use Rattle.desk_arrays.proofs.ArrayLaws.{Lowest}
use Rattle.desk_arrays.proofs.first_bad.Given as goal

abbrev pub invariant-loop-i : goal.invariant-loop-i
invariant-loop-i g l =
    let e = g.E.Entry in
    record {
      can : (goal.iterator-loop-i g).can_next l.i-iterator;
      ends : (goal.iterator-loop-i g).is_finite l.i-iterator;
      chart : l.i-iterator.chart ≡ l.fn.chart;
      found : Lowest e.inside (λ i. e.decode (number_at l.fn.file (l.fn.from + e.BYTES * i) e.BYTES)) l.fn.chart.period l.fn.chart.start l.fn.chart.count l.i-iterator.place l.lowest;
    }

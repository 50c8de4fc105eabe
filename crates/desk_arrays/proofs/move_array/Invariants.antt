-- `desk_arrays::move_array` meets its contract: the numbers before the place that is next are stored, in the month order of the output.
use mathlib.Core.Path.{◌≡◌}
use Rattle.chart.specs.Chart.{order_of_t}
use Rattle.desk_arrays.specs.Promises.{numbers_at}
use Rattle.desk_arrays.proofs.ArrayLaws.{Stored}
use Rattle.desk_arrays.proofs.move_array.Given as goal

abbrev pub invariant-loop-i : goal.invariant-loop-i
invariant-loop-i g l =
    let e = g.E.Entry in
    let a = l.fn.chart in
    record {
      can : (goal.iterator-loop-i g).can_next l.i-iterator;
      ends : (goal.iterator-loop-i g).is_finite l.i-iterator;
      chart : l.i-iterator.chart ≡ l.fn.other;
      stored : Stored 0 e.BYTES (λ w. w) l.fn.other.period l.fn.other.start (order_of_t 0 a.period a.start (numbers_at e.BYTES l.fn.file l.fn.from a.count)) l.fn.to l.initial.out l.i-iterator.place l.out;
    }

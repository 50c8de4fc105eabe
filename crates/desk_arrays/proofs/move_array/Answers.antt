use Prim.Native.Nat.{◌<◌, ◌≤◌}
use mathlib.Core.Path.{◌≡◌, sym, ap, ◌∙◌}
use native.Mathlib.Omega.{arith}
use lib.ListN.{length}
use lib.Seq.{sets}
use Rattle.little_endian.specs.Bytes.{AreBytes}
use Rattle.chart.specs.Chart.{order_of_t}
use Rattle.chart.specs.Promises.{Stands}
use Rattle.chart.proofs.Rearranging.{length-order_of_t}
use Rattle.desk_arrays.specs.Promises.{numbers_at}
use Rattle.desk_arrays.proofs.ArrayLaws.{length-numbers_at, number_of, stored_more, stored_all, moved_entries}
use Rattle.desk_arrays.proofs.move_array.Goals as goal

pub loop-i-preserved : goal.loop-i-preserved
loop-i-preserved g c =
    let q = c.loop-i.invariant in
    let s = c.in-Some.ensures.steps in
    let a = c.args.chart in
    let b = c.args.other in
    let width = g.E.Entry.BYTES in
    let long : length (order_of_t 0 a.period a.start (numbers_at width c.args.file.now c.args.from a.count)) ≡ b.count =
    length-order_of_t 0 a.period a.start a.charted.starts (numbers_at width c.args.file.now c.args.from a.count) ∙ length-numbers_at width c.args.file.now c.args.from a.count ∙ sym c.requires.2 in
    let k : Stands b.period b.start (length (order_of_t 0 a.period a.start (numbers_at width c.args.file.now c.args.from a.count))) c.loop-i.i-iterator.place c.in-Some.t = rw (s.0, q.chart, ← long) at s.1 in
    let e = rw (c.BYTES-width.ensures, s.0) at c.put_number.ensures in
    let t : c.in-Some.t < a.count = omega (arith, k.inside, long, c.requires.2) in
    let value =
    (rw (c.BYTES-width.ensures, c.place.ensures.0) at c.number_at-number.ensures.value)
    ∙ sym (number_of width c.args.file.now c.args.from a.period a.start a.count c.in-Some.t a.charted.starts t) in
    record {
      can = tt;
      ends = tt;
      chart = s.2 ∙ q.chart;
      stored = rw s.3 (stored_more b.charted.starts q.stored k value e);
    }

pub returns : goal.returns
returns g c =
    let a = c.args.chart in
    let e = g.E.Entry in
    let numbers = numbers_at e.BYTES c.args.file.now c.args.from a.count in
    let n : c.args.other.count ≤ c.loop-i.i-iterator.place = rw c.loop-i.invariant.chart at c.in-None.ensures.steps in
    let v = a.charted.starts in
    let u = c.args.other.charted.starts in
    let b : AreBytes c.args.file.now = record { each = λ i h. omega (arith, c.type_inv.file i) } in
    let stored =
    stored_all u c.loop-i.invariant.stored
    (rw (length-order_of_t 0 a.period a.start v numbers, length-numbers_at e.BYTES c.args.file.now c.args.from a.count, ← c.requires.2) n) in
    record {
      numbers = stored;
      entries = stored ∙ ap (sets c.args.out.now c.args.to) (moved_entries e.zero e.BYTES e.code e.decode g.met.E.Entry.kept b c.args.from a.count c.requires.0 a.period a.start c.args.other.period c.args.other.start v u);
    }

use Prim.Native.Nat.{◌≤◌}
use mathlib.Core.Path.{refl, ap, ◌∙◌}
use lib.ListN.{length}
use Rattle.std.proofs.lemmas.List.{get_or_read_under}
use Rattle.chart.specs.Promises.{Stands}
use Rattle.desk_arrays.proofs.ArrayLaws.{stored_more, stored_all}
use Rattle.desk_arrays.proofs.put.Goals as goal

pub loop-i-preserved : goal.loop-i-preserved
loop-i-preserved g c =
    let q = c.loop-i.invariant in
    let s = c.in-Some.ensures.steps in
    let a = c.args.chart in
    let k : Stands a.period a.start (length c.args.values.now) c.loop-i.i-iterator.place c.in-Some.t = rw (s.0, q.chart, ← c.requires.1) at s.1 in
    let e = rw (c.BYTES-width.ensures, s.0) at c.put_number.ensures in
    record {
      can = tt;
      ends = tt;
      chart = s.2 ∙ q.chart;
      stored = rw s.3 (stored_more a.charted.starts q.stored k (c.to_number-number.ensures ∙ ap g.E.Entry.code (get_or_read_under _ _ _ _ _ c.index-values-t.is k.inside refl)) e);
    }

pub returns : goal.returns
returns g c =
    let n : c.args.chart.count ≤ c.loop-i.i-iterator.place = rw c.loop-i.invariant.chart at c.in-None.ensures.steps in
    stored_all c.args.chart.charted.starts c.loop-i.invariant.stored (rw c.requires.1 n)

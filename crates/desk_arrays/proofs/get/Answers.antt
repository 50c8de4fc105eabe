use Prim.Native.Nat.{ℕ, ◌+◌, ◌*◌}
use Rattle.little_endian.specs.Bytes.{number_at}
use mathlib.Core.Path.{◌∙◌}
use Rattle.chart.specs.Promises.{Stands}
use Rattle.desk_arrays.specs.Promises.{entries_at}
use Rattle.desk_arrays.proofs.ArrayLaws.{walk_more, walk_all}
use Rattle.desk_arrays.proofs.get.Goals as goal

pub loop-i-preserved : goal.loop-i-preserved
loop-i-preserved g c =
    let q = c.loop-i.invariant in
    let s = c.in-Some.ensures.steps in
    let a = c.args.chart in
    let e = g.E.Entry in
    let k : Stands a.period a.start a.count c.loop-i.i-iterator.place c.in-Some.t = rw (s.0, q.chart) at s.1 in
    record { can = tt; ends = tt; chart = s.2 ∙ q.chart; filled = rw s.3 (walk_more {f = λ (i : ℕ). e.decode (number_at c.args.file.now (c.args.from + e.BYTES * i) e.BYTES)} a.charted.starts c.requires.1 q.filled k (rw s.0 at c.stored.ensures)) }

pub returns : goal.returns
unfolding entries_at
returns g c = walk_all c.args.chart.charted.starts c.requires.1 c.loop-i.invariant.filled (rw c.loop-i.invariant.chart at c.in-None.ensures.steps)

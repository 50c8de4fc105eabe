use Prim.Native.Nat.{ℕ, ◌+◌, ◌*◌}
use mathlib.Core.Path.{sym, ◌∙◌}
use borrow.Author.Tests.{not-true, not-false}
use Rattle.little_endian.specs.Bytes.{number_at}
use Rattle.chart.specs.Promises.{Stands}
use Rattle.desk_arrays.specs.Promises.{entries_at}
use Rattle.desk_arrays.proofs.ArrayLaws.{lowest_passed, lowest_failed, lowest_told}
use Rattle.desk_arrays.proofs.first_bad.Goals as goal

pub loop-i-preserved : goal.loop-i-preserved
loop-i-preserved g c =
    let q = c.loop-i.invariant in
    let s = c.in-Some.ensures.steps in
    let a = c.args.chart in
    let e = g.E.Entry in
    let k : Stands a.period a.start a.count c.loop-i.i-iterator.place c.in-Some.t = rw (s.0, q.chart) at s.1 in
    record {
      can = tt;
      ends = tt;
      chart = s.2 ∙ q.chart;
      found = rw s.3 (lowest_passed {f = λ (i : ℕ). e.decode (number_at c.args.file.now (c.args.from + e.BYTES * i) e.BYTES)} a.charted.starts q.found k (rw s.0 at c.stored.ensures) (not-false _ (sym c.if-outside.ensures)));
    }

pub loop-i-preserved-then-outside : goal.loop-i-preserved-then-outside
loop-i-preserved-then-outside g c =
    let q = c.loop-i.invariant in
    let s = c.in-Some.ensures.steps in
    let a = c.args.chart in
    let e = g.E.Entry in
    let k : Stands a.period a.start a.count c.loop-i.i-iterator.place c.in-Some.t = rw (s.0, q.chart) at s.1 in
    record {
      can = tt;
      ends = tt;
      chart = s.2 ∙ q.chart;
      found = rw (s.3, c.min-lowest.ensures) (lowest_failed {f = λ (i : ℕ). e.decode (number_at c.args.file.now (c.args.from + e.BYTES * i) e.BYTES)} a.charted.starts q.found k (rw s.0 at c.stored.ensures) (not-true _ (sym c.if-outside.ensures)));
    }

pub returns : goal.returns
unfolding entries_at
returns g c = c.then_some.ensures ∙ lowest_told c.args.chart.charted.starts _ c.loop-i.invariant.found (rw c.loop-i.invariant.chart at c.in-None.ensures.steps)

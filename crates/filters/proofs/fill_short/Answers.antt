use native.Mathlib.Omega.{arith}
use mathlib.Core.Path.{◌∙◌}
use Rattle.integers.proofs.Signed64.{kept}
use Rattle.integers.proofs.FillingLaws.{filled_more}
use Rattle.filters.specs.Promises.{table_of}
use Rattle.filters.proofs.Stretches.{place-served, by-counts}
use Rattle.filters.proofs.fill_short.Goals as goal

pub by_row-requires : goal.by_row-requires
by_row-requires c = let a = c.args in
    (place-served (table_of a.f) a.first a.past c.loop-t.t c.min-earlier.ensures c.min-later.ensures c.requires.0 (omega arith) (omega arith), c.requires.0.short)

pub loop-t-preserved : goal.loop-t-preserved
loop-t-preserved c = let a = c.args in (
  omega arith,
  omega arith,
  filled_more c.loop-t.invariant.2 (omega arith) (omega (arith, c.requires.0.inside, c.requires.2, c.loop-t.invariant.2.long))
      (kept c.by_row.type_inv c.by_row.ensures ∙ by-counts (table_of a.f) a.first a.past c.loop-t.t c.min-earlier.ensures c.min-later.ensures a.x.now),
)

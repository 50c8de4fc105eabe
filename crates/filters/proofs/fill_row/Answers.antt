use mathlib.Core.Path.{◌≡◌}
use native.Mathlib.Omega.{arith}
use Rattle.integers.proofs.Signed64.{kept}
use Rattle.integers.proofs.FillingLaws.{filled_none, filled_more}
use Rattle.filters.proofs.Stretches.{served-at}
use Rattle.filters.proofs.fill_row.Goals as goal

pub loop-t-init : goal.loop-t-init
loop-t-init c = (omega arith, c.requires.0.order, filled_none)

pub by_row-requires : goal.by_row-requires
by_row-requires c = (served-at c.requires.0 c.loop-t.t (omega arith) (omega arith), c.requires.1)

pub loop-t-preserved : goal.loop-t-preserved
loop-t-preserved c = (omega arith, omega arith, filled_more c.loop-t.invariant.2 (omega arith) (omega arith) (kept c.by_row.type_inv c.by_row.ensures))

pub shape_of-out : goal.shape_of-out
shape_of-out c = c.loop-t.invariant.2.long

pub returns : goal.returns
returns c = let e : c.loop-t.t ≡ c.args.hi = omega arith in rw (← e) c.loop-t.invariant.2

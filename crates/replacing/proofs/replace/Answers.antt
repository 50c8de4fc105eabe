use native.Mathlib.Omega.{arith}
use Rattle.integers.proofs.FillingLaws.{filled_none, filled_more, filled-tab}
use Rattle.integers.proofs.Signed64.{kept}
use Rattle.replacing.specs.Replaced.{replaced_by}
use Rattle.replacing.proofs.replace.Goals as goal

pub loop-t-init : goal.loop-t-init
loop-t-init c = (omega arith, omega arith, filled_none)

pub loop-t-preserved : goal.loop-t-preserved
loop-t-preserved c = (omega arith, c.loop-t.invariant.1, filled_more c.loop-t.invariant.2 (omega arith) (omega arith) (kept c.replaced_at.type_inv c.replaced_at.ensures))

pub shape_of-out : goal.shape_of-out
shape_of-out c = c.loop-t.invariant.2.long

pub returns : goal.returns
unfolding replaced_by
returns c = filled-tab c.loop-t.invariant.2 (omega arith) c.requires.2

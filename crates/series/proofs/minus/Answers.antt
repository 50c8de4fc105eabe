use Rattle.series.specs.Operations.{minus}
use Rattle.integers.proofs.FillingLaws.{filled_none, filled_more, filled-tab}
use Rattle.integers.proofs.Signed64.{i-, i_kept, i_in}
use native.Mathlib.Omega.{arith}
use Rattle.series.proofs.minus.Goals as goal

pub loop-t-init : goal.loop-t-init
loop-t-init c = (omega arith, omega arith, filled_none)

pub loop-t-preserved : goal.loop-t-preserved
loop-t-preserved c = let p = c.requires.0 in let t = c.loop-t.t in
    (omega arith, c.loop-t.invariant.1, filled_more c.loop-t.invariant.2 (omega arith) (omega arith) (i_kept (i- (i_in (p.left.at t) tt) (i_in (p.right.at t) tt)) tt).eq)

pub returns : goal.returns
unfolding minus
returns c = filled-tab c.loop-t.invariant.2 (omega arith) c.requires.1

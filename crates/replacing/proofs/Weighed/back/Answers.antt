use native.Mathlib.Omega.{arith}
use Rattle.replacing.proofs.WalkLaws.{back_more, back_found, back_none}
use Rattle.replacing.proofs.Weighed.back.Goals as goal

pub returns-then-is_full : goal.returns-then-is_full
returns-then-is_full c = back_found (omega arith) c.loop-q.invariant c.in-Some.q (omega (arith, c.in-Some.ensures)) cc

pub loop-q-preserved : goal.loop-q-preserved
loop-q-preserved c = back_more (omega arith) c.loop-q.invariant c.in-Some.q (omega (arith, c.in-Some.ensures)) cc

pub returns : goal.returns
returns c = back_none (omega arith) c.loop-q.invariant (omega (arith, c.in_default.ensures))

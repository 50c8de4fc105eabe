use native.Mathlib.Omega.{arith}
use Rattle.replacing.proofs.WalkLaws.{ahead_more, ahead_found, ahead_none}
use Rattle.replacing.proofs.Weighed.ahead.Goals as goal

pub returns-then-is_full : goal.returns-then-is_full
returns-then-is_full c = ahead_found (omega arith) c.loop-q.invariant.0 c.in-Some.q (omega (arith, c.in-Some.ensures)) (omega (arith, c.in-Some.ensures)) cc

pub loop-q-preserved : goal.loop-q-preserved
loop-q-preserved c = (ahead_more (omega arith) c.loop-q.invariant.0 c.in-Some.q (omega (arith, c.in-Some.ensures)) (omega (arith, c.in-Some.ensures)) cc, omega (arith, c.in-Some.ensures))

pub returns : goal.returns
returns c = ahead_none (omega arith) c.loop-q.invariant.0 (omega (arith, c.in_default.ensures))

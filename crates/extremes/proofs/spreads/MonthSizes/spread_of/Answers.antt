use native.Mathlib.Omega.{arith}
use Rattle.extremes.proofs.SpreadLaws.{dropping_all, one_dropped, dropping_next, dropping_done, spread-is}
use Rattle.extremes.proofs.spreads.MonthSizes.spread_of.Goals as goal

pub loop-t-init : goal.loop-t-init
loop-t-init c = dropping_all c.args.self.now.sizes (omega arith) c.next_above-t.ensures (omega arith) (omega arith)

pub overflow_sub-sum : goal.overflow_sub-sum
overflow_sub-sum c = omega (arith, (one_dropped c.args.self.now.sizes (omega arith) c.loop-t.invariant (omega arith) c.at-a.ensures).0)

pub loop-t-preserved : goal.loop-t-preserved
loop-t-preserved c = dropping_next c.args.self.now.sizes (omega arith) c.loop-t.invariant (omega arith) c.at-a.ensures c.next_above-t-in-loop-t.ensures

pub returns : goal.returns
returns c = let d = dropping_done c.args.self.now.sizes (omega arith) c.loop-t.invariant (omega arith) in spread-is _ d.0 d.1 c.root.ensures

use mathlib.Core.Path.{◌∙◌}
use native.Mathlib.Omega.{arith}
use Rattle.extremes.proofs.SpreadLaws.{month-stays}
use Rattle.extremes.proofs.spreads.MonthSizes.next_above.Goals as goal

pub loop-k-preserved : goal.loop-k-preserved
loop-k-preserved c = let l = c.loop-k in
    (omega arith, omega arith, l.invariant.2 ∙ month-stays c.args.self.now.sizes l.k c.args.hi (omega arith) (omega arith) c.at.ensures (omega arith))

use mathlib.Core.Path.{ap, ◌∙◌}
use native.Mathlib.Omega.{arith}
use Rattle.integers.proofs.FillingLaws.{filled_more}
use Rattle.extremes.specs.Weighing.{weight, weight_by}
use Rattle.extremes.proofs.spreads.MonthSizes.fill_weights.Goals as goal

pub loop-t-preserved : goal.loop-t-preserved
unfolding weight_by
loop-t-preserved c = (omega arith, omega arith, filled_more c.loop-t.invariant.2 (omega arith) (omega arith) (c.weight.ensures ∙ ap (weight c.args.spread) c.at.ensures))

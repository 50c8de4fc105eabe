-- `pass_b::weigh` meets its contract: the preliminary seasonal, what it leaves, and the weights of that.
use mathlib.Core.Path.{ap, ◌∙◌}
use native.Mathlib.Omega.{arith}
use Rattle.refusals.specs.Limits.{months_of_year}
use Rattle.series.specs.Operations.{minus}
use Rattle.extremes.specs.Weighing.{weights_of}
use Rattle.pass_b.proofs.Turns.{r_filterable, to_level, si_minusable, weighable}
use Rattle.pass_b.proofs.weigh.Goals as goal

pub without_level-requires : goal.without_level-requires
without_level-requires c = let h = c.requires in (r_filterable h, omega (arith, h.calendar.least), omega (arith, h.t_long, h.r_long), omega (arith, h.s_long, h.r_long))

pub minus-requires : goal.minus-requires
minus-requires c = let h = c.requires in (si_minusable h (to_level h c.without_level.ensures), h.r_long)

pub weights-requires : goal.weights-requires
weights-requires c = let h = c.requires in
    weighable h (to_level h c.without_level.ensures) c.minus.ensures (omega (arith, h.t_long, c.without_level)) (omega (arith, h.s_long, c.without_level)) h.w_long

pub returns : goal.returns
returns c = c.weights.ensures.weights ∙ ap (weights_of c.args.start months_of_year) (c.minus.ensures ∙ ap (minus c.args.si.now) (to_level c.requires c.without_level.ensures))

-- `figures::corrected_at` meets its contract: the figure in grains and its correction are small enough for their difference to fit.
use mathlib.Core.Path.{ap, ◌∙◌}
use lib.ListN.{get_or}
use lib.IntN.{ℤ, pos, ◌-ℤ◌, ◌*ℤ◌}
use Rattle.integers.specs.Lists.{◌‼◌}
use Rattle.integers.proofs.Signed64.{i-, i_kept, i_in, i_call, i_within, i_fits}
use Rattle.refusals.specs.Limits.{unit}
use Rattle.extremes.specs.Weighing.{correction_of}
use Rattle.extremes.proofs.WeighingLaws.{correction_within}
use Rattle.figures.proofs.Loops.{grains_within}
use Rattle.figures.proofs.corrected_at.Goals as goal

pub returns : goal.returns
returns c = (i_kept (i- (i_call c.grains_at.type_inv c.grains_at.ensures (grains_within c.requires.0.figures c.args.t)) (i_call c.correction.type_inv c.correction.ensures (correction_within _ _ (i_within (i_in (c.requires.0.small.at c.args.t) tt))))) tt).eq
    ∙ ap (λ (z : ℤ). pos unit *ℤ (c.args.figures.now ‼ c.args.t) -ℤ correction_of z (get_or c.args.weights.now c.args.t 0)) (i_in (c.requires.0.small.at c.args.t) tt).eq

pub overflow_sub-result : goal.overflow_sub-result
overflow_sub-result c = i_fits (i- (i_call c.grains_at.type_inv c.grains_at.ensures (grains_within c.requires.0.figures c.args.t)) (i_call c.correction.type_inv c.correction.ensures (correction_within _ _ (i_within (i_in (c.requires.0.small.at c.args.t) tt))))) tt

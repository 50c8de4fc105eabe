-- `refusals::weight_above` meets its contract: above is not at most.
use Rattle.refusals.specs.Inside.{weight_inside}
use Rattle.refusals.proofs.InsideLaws.{above}
use Rattle.refusals.specs.Limits.{full_weight}
use Rattle.refusals.proofs.weight_above.Goals as goal

pub returns : goal.returns
unfolding weight_inside
returns c = above full_weight c.args.weight

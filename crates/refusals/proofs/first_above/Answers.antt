-- `refusals::first_above` meets its contract: the library's `position` is the first that fails.
use Rattle.std.proofs.Common.{rules, tests, not, ◌∙◌}
use Rattle.std.proofs.lemmas.Iterator.{YieldsList-from_slice}
use Rattle.std.proofs.lemmas.Iterator.Search.{position_from_yields_List}
use Rattle.refusals.specs.First.{first_above}
use Rattle.refusals.specs.Inside.{weight_inside}
use Rattle.refusals.proofs.FirstLaws.{first-position}
use Rattle.refusals.proofs.first_above.Goals as goal

pub returns : goal.returns
unfolding first_above
returns c = position_from_yields_List (λ x. not (weight_inside x)) _ _ _ c.position.ensures.ran (YieldsList-from_slice _ c.iter.ensures.rest) (λ x b q k. search (rules, tests)) ∙ first-position weight_inside c.args.weights.now

-- `refusals::first_outside` meets its contract: the library's `position` is the first that fails.
use Rattle.std.proofs.Common.{rules, tests, not, ◌∙◌}
use Rattle.std.proofs.lemmas.Iterator.{YieldsList-from_slice}
use Rattle.std.proofs.lemmas.Iterator.Search.{position_from_yields_List}
use Rattle.refusals.specs.First.{first_outside}
use Rattle.refusals.specs.Inside.{figure_inside}
use Rattle.refusals.proofs.FirstLaws.{first-position}
use Rattle.refusals.proofs.first_outside.Goals as goal

pub returns : goal.returns
unfolding first_outside
returns c = position_from_yields_List (λ x. not (figure_inside x)) _ _ _ c.position.ensures.ran (YieldsList-from_slice _ c.iter.ensures.rest) (λ x b q k. search (rules, tests)) ∙ first-position figure_inside c.args.figures.now

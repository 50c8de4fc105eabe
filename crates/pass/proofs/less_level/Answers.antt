-- `pass::less_level` meets its contract: its three stretches are filled in turn.
use mathlib.Core.Path.{◌∙◌}
use Rattle.pass.proofs.Places.{first_levels, own_levels, last_levels, levels_filled}
use Rattle.pass.proofs.less_level.Goals as goal

pub less_from-requires : goal.less_from-requires
less_from-requires c = (first_levels c.requires.0, c.requires.1)

pub less_from-requires-2 : goal.less_from-requires-2
less_from-requires-2 c = (own_levels c.requires.0, c.less_from.ensures.long ∙ c.requires.1)

pub less_from-requires-3 : goal.less_from-requires-3
less_from-requires-3 c = (last_levels c.requires.0, c.less_from-2.ensures.long ∙ c.less_from.ensures.long ∙ c.requires.1)

pub returns : goal.returns
returns c = levels_filled c.requires.0 c.less_from.ensures c.less_from-2.ensures c.less_from-3.ensures

-- `pass::without_level` meets its contract: 2×12, then the difference.
use Rattle.rows.specs.FilterTables.{table2x12}
use Rattle.steps.proofs.Sound.{plain_sound}
use Rattle.pass.proofs.Places.{without_levels}
use Rattle.pass.proofs.Stages.{levels}
use Rattle.pass.proofs.without_level.Goals as goal

pub two_by_twelve-requires : goal.two_by_twelve-requires
two_by_twelve-requires c = (c.requires.0, c.requires.1, c.requires.2)

pub less_level-requires : goal.less_level-requires
less_level-requires c = (levels plain_sound c.requires.0 c.requires.1 c.requires.2 c.two_by_twelve.ensures, c.requires.3)

pub returns : goal.returns
returns c = without_levels (levels plain_sound c.requires.0 c.requires.1 c.requires.2 c.two_by_twelve.ensures) table2x12 c.two_by_twelve.ensures c.less_level.ensures

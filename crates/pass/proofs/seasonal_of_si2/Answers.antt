-- `pass::seasonal_of_si2` meets its contract: the filter chosen, less its level.
use mathlib.Core.Path.{refl, ◌∙◌}
use native.Mathlib.Omega.{arith}
use Rattle.rows.specs.FilterTables.{table2x12, table_seasonal}
use Rattle.steps.specs.Choices.{average_seasonal}
use Rattle.filters.proofs.Light.{light_seasonal}
use Rattle.filters.proofs.ByMonth.{all-months}
use Rattle.steps.proofs.Sound.{plain_sound}
use Rattle.pass.proofs.Places.{whole-months, whole_is, filter-months, level-months}
use Rattle.pass.proofs.Stages.{mean_filterable}
use Rattle.pass.proofs.seasonal_of_si2.Goals as goal

pub seasonal-requires : goal.seasonal-requires
seasonal-requires c = let s = c.requires in (all-months s.filterable, omega (arith, s.long), s.r_long)

pub without_level-requires : goal.without_level-requires
without_level-requires c = let s = c.requires in
    (mean_filterable (average_seasonal c.args.chosen) (light_seasonal c.args.chosen) (all-months s.filterable) s.r_long c.seasonal.ensures, omega (arith, s.long), omega (arith, s.r_long), omega (arith, s.out_long, s.r_long))

pub returns : goal.returns
returns c = whole_is (c.without_level.ensures.long ∙ c.requires.out_long)
    (level-months table2x12 (filter-months (table_seasonal c.args.chosen) (whole-months c.args.si.now refl) c.seasonal.ensures) plain_sound.reach_is (omega (arith, c.requires.long)) c.without_level.ensures)

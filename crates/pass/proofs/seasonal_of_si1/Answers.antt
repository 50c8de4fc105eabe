-- `pass::seasonal_of_si1` meets its contract: 3×3, less its level, copied to the outer months.
use mathlib.Core.Path.{ap, ◌∙◌}
use native.Mathlib.Omega.{arith}
use Rattle.rows.specs.declared.SeasonalFilter.TheVariants.{ThreeByThree}
use Rattle.rows.specs.FilterTables.{table2x12, table_seasonal}
use Rattle.steps.specs.Choices.{average_seasonal}
use Rattle.steps.specs.Places.{widened}
use Rattle.steps.proofs.Sound.{plain_sound}
use Rattle.steps.proofs.ByMonth.{inner-months}
use Rattle.pass.proofs.Places.{inner-is, filter-months, level-months}
use Rattle.pass.proofs.Stages.{mean_filterable}
use Rattle.pass.proofs.seasonal_of_si1.Goals as goal

pub three_by_three-requires : goal.three_by_three-requires
three_by_three-requires c = let s = c.requires in (s.filterable, omega (arith, s.long), s.r_long)

pub without_level-requires : goal.without_level-requires
without_level-requires c = let s = c.requires in
    (mean_filterable (average_seasonal ThreeByThree) plain_sound.seasonal1_norm s.filterable s.r_long c.three_by_three.ensures, omega (arith, s.long), omega (arith, s.m_long, s.r_long), omega (arith, s.out_long, s.r_long))

pub returns : goal.returns
returns c = c.widen.ensures
    ∙ ap (widened 6) (inner-is (c.without_level.ensures.long ∙ c.requires.out_long)
    (level-months table2x12 (filter-months (table_seasonal ThreeByThree) (inner-months 6 c.args.si.now) c.three_by_three.ensures) plain_sound.reach_is (omega (arith, c.requires.long)) c.without_level.ensures))

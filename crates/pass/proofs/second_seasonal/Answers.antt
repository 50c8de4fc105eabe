-- `pass::second_seasonal` meets its contract: SI2, then its seasonal.
use mathlib.Core.Path.{◌≡◌}
use mathlib.Core.List.{List}
use lib.IntN.{ℤ}
use native.Mathlib.Omega.{arith}
use Rattle.rows.specs.declared.SeasonalFilter.{SeasonalFilter}
use Rattle.steps.specs.Choices.{none, plain_by}
use Rattle.steps.specs.Steps.{T2, SI2}
use Rattle.steps.proofs.Sound.{Sound, monthly-sound}
use Rattle.series.specs.Operations.{minus}
use Rattle.pass.specs.Promises.{PassSeries}
use Rattle.pass.proofs.Stages.{minusable2, to_si2, si2_filterable, to_s2}
use Rattle.pass.proofs.second_seasonal.Goals as goal

-- the choices of the pass are sound
sound : (f : SeasonalFilter) → Sound (plain_by f)
sound f = monthly-sound f none none

-- what stands in a after the difference
is-si2 : (f : SeasonalFilter) {x t a : List ℤ} → PassSeries 6 x → t ≡ T2 (plain_by f) x → a ≡ minus x t → a ≡ SI2 (plain_by f) x
is-si2 f h e k = to_si2 (sound f) h e k

pub minus-requires : goal.minus-requires
minus-requires c = let s = c.requires in (minusable2 (sound _) s.0 s.1, s.2.a_long)

pub seasonal_of_si2-requires : goal.seasonal_of_si2-requires
seasonal_of_si2-requires c = let s = c.requires in record {
  filterable = si2_filterable (sound _) s.0 (is-si2 c.args.chosen c.requires.0 c.requires.1 c.minus.ensures);
  long = omega (arith, s.0.long, s.2);
  r_long = omega (arith, s.2);
  out_long = omega (arith, s.2);
}

pub returns : goal.returns
returns c = to_s2 (sound _) c.requires.0 (is-si2 c.args.chosen c.requires.0 c.requires.1 c.minus.ensures) c.seasonal_of_si2.ensures

-- `pass::one_pass` meets its contract: S1, then T2, then S2.
use native.Mathlib.Omega.{arith}
use mathlib.Core.Path.{◌≡◌, ◌∙◌}
use mathlib.Core.List.{List}
use lib.IntN.{ℤ}
use Rattle.rows.specs.declared.SeasonalFilter.{SeasonalFilter}
use Rattle.steps.specs.Choices.{none, plain_by, plain_monthly}
use Rattle.steps.specs.Steps.{S1}
use Rattle.steps.proofs.Sound.{monthly-sound}
use Rattle.steps.proofs.Shared.{same_s1}
use Rattle.pass.proofs.Stages.{adjustable, to_t2}
use Rattle.pass.proofs.one_pass.Goals as goal

-- S1 of the pass, whichever filter its step 6 has
is-s1 : (f : SeasonalFilter) (x : List ℤ) {s : List ℤ} → s ≡ S1 plain_monthly x → s ≡ S1 (plain_by f) x
is-s1 f x e = e ∙ same_s1 _ _ none none none x

pub trend-requires : goal.trend-requires
trend-requires c = let s = c.requires in
    (adjustable (monthly-sound _ none none) s.0 (is-s1 c.args.chosen c.args.x.now c.first_seasonal.ensures), omega (arith, s.1), omega (arith, s.2))

pub second_seasonal-requires : goal.second_seasonal-requires
second_seasonal-requires c = let s = c.requires in
    (s.0, to_t2 (monthly-sound _ none none) s.0 (is-s1 c.args.chosen c.args.x.now c.first_seasonal.ensures) c.trend.ensures, record { a_long = omega (arith, s.1); b_long = omega (arith, s.1); out_long = omega (arith, s.1) })

pub returns : goal.returns
returns c = let s = c.requires in
    record { trend = to_t2 (monthly-sound _ none none) s.0 (is-s1 c.args.chosen c.args.x.now c.first_seasonal.ensures) c.trend.ensures; seasonal = c.second_seasonal.ensures }

-- `pass::first_si` meets its contract: T1, then the difference.
use native.Mathlib.Omega.{arith}
use Rattle.filters.proofs.ByMonth.{all-months}
use Rattle.steps.proofs.Sound.{plain_sound}
use Rattle.pass.proofs.Places.{own_levels}
use Rattle.pass.proofs.Stages.{levels, x_filterable, to_t1, to_si1}
use Rattle.pass.proofs.first_si.Goals as goal

pub two_by_twelve-requires : goal.two_by_twelve-requires
two_by_twelve-requires c = let s = c.requires in (all-months (x_filterable plain_sound s.0), omega (arith, s.0.long), s.1)

pub less_from-requires : goal.less_from-requires
less_from-requires c = let s = c.requires in
    (own_levels (levels plain_sound (all-months (x_filterable plain_sound s.0)) (omega (arith, s.0.long)) s.1 c.two_by_twelve.ensures), s.2)

pub returns : goal.returns
returns c = let s = c.requires.0 in let u = to_t1 plain_sound s c.two_by_twelve.ensures in
    (u, to_si1 plain_sound s u c.less_from.ensures)

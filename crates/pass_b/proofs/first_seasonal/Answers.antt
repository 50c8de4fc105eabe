-- `pass_b::first_seasonal` meets its contract: SI1 replaced, then its seasonal.
use native.Mathlib.Omega.{arith}
use Rattle.pass.proofs.Stages as stages
use Rattle.pass_b.proofs.Turns.{series, sound4, replaced1_stands}
use Rattle.pass_b.proofs.first_seasonal.Goals as goal

pub seasonal_of_si1-requires : goal.seasonal_of_si1-requires
seasonal_of_si1-requires c = let h = c.args.given.now.fits in let e = c.replaced_si1 in record {
  filterable = stages.si1_filterable (sound4 h) (series h) (replaced1_stands h e.ensures c.requires.a_long);
  long = omega (arith, h.long, c.requires.a_long, e);
  r_long = omega (arith, c.requires, e);
  m_long = omega (arith, c.requires, e);
  out_long = omega (arith, c.requires, e);
}

pub returns : goal.returns
returns c = let h = c.args.given.now.fits in stages.to_s1 (sound4 h) (series h) (replaced1_stands h c.replaced_si1.ensures c.requires.a_long) c.seasonal_of_si1.ensures

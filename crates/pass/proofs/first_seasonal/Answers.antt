-- `pass::first_seasonal` meets its contract: SI1, then its seasonal.
use native.Mathlib.Omega.{arith}
use Rattle.steps.proofs.Sound.{plain_sound}
use Rattle.pass.proofs.Stages.{si1_stands, si1_filterable, to_s1}
use Rattle.pass.proofs.first_seasonal.Goals as goal

pub seasonal_of_si1-requires : goal.seasonal_of_si1-requires
seasonal_of_si1-requires c = let s = c.requires in record {
  filterable = si1_filterable plain_sound s.0 (si1_stands plain_sound s.0 s.1.b_long c.first_si.ensures.1);
  long = omega (arith, s.0.long, s.1);
  r_long = omega (arith, s.1);
  m_long = omega (arith, s.2, s.1);
  out_long = omega (arith, s.1);
}

pub returns : goal.returns
returns c = let s = c.requires in
    to_s1 plain_sound s.0 (si1_stands plain_sound s.0 s.1.b_long c.first_si.ensures.1) c.seasonal_of_si1.ensures

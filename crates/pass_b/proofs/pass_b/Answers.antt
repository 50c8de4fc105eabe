-- `pass_b::pass_b` meets its contract: S1, then T2, then SI2 replaced, then S2.
use native.Mathlib.Omega.{arith}
use Rattle.pass.proofs.Stages as stages
use Rattle.pass_b.proofs.Turns.{series, sound4, sound, to_t2, to_replaced2}
use Rattle.pass_b.proofs.pass_b.Goals as goal

pub trend-requires : goal.trend-requires
trend-requires c = let h = c.requires in let e = c.first_seasonal in
    (stages.adjustable (sound4 h.0) (series h.0) e.ensures, omega (arith, h.1, e), omega (arith, h.1, e))

pub replaced_si2-requires : goal.replaced_si2-requires
replaced_si2-requires c = let h = c.requires in let e = c.first_seasonal in (
  stages.to_t2 (sound4 h.0) (series h.0) e.ensures c.trend.ensures,
  record {
    a_long = omega (arith, h.1, e, c.trend);
    b_long = omega (arith, h.1, e);
    t_long = omega (arith, h.1, e, c.trend);
    s_long = omega (arith, h.1, e);
    w_long = omega (arith, h.1, e);
  },
)

pub seasonal_of_si2-requires : goal.seasonal_of_si2-requires
seasonal_of_si2-requires c = let h = c.requires in let e = c.replaced_si2 in record {
  filterable = stages.si2_filterable (sound h.0) (series h.0) (to_replaced2 h.0 e.ensures.si2);
  long = omega (arith, h.0.long, h.1.b_long, c.first_seasonal, e);
  r_long = omega (arith, h.1, c.first_seasonal, c.trend, e);
  out_long = omega (arith, h.1, c.first_seasonal, e);
}

pub returns : goal.returns
returns c = let h = c.requires.0 in let e = c.replaced_si2.ensures in record {
  trend = to_t2 h e.trend;
  seasonal = stages.to_s2 (sound h) (series h) (to_replaced2 h e.si2) c.seasonal_of_si2.ensures;
}

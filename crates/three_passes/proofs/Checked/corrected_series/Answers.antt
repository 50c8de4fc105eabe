-- `three_passes::Checked::corrected_series` meets its contract: pass B, then pass C.
use native.Mathlib.Omega.{arith}
use Rattle.three_passes.proofs.Checked.corrected_series.Goals as goal

pub to_d1-requires : goal.to_d1-requires
to_d1-requires c = let s = c.requires in let e = c.to_c1 in (
  record { a_long = omega (arith, s.0, e); b_long = omega (arith, s.0, e); t_long = omega (arith, s.0, e); s_long = omega (arith, s.0, e) },
  e.ensures.series_is,
  omega (arith, s.2, e),
)

pub returns : goal.returns
returns c = let e = c.to_d1.ensures.0 in
    record { series = e.series_is; choice_tables = c.to_d1.ensures.1; b17_is = c.to_c1.ensures.weights_is; c17_is = e.weights_is }

-- `three_passes::Checked::to_c1` meets its contract: B1, then pass B, then its extremes corrected.
use native.Mathlib.Omega.{arith}
use Rattle.three_passes.proofs.Passes.{series-b, correctable_b, to_c1}
use Rattle.three_passes.proofs.Checked.to_c1.Goals as goal

pub pass_b-requires : goal.pass_b-requires
pass_b-requires c = let s = c.requires in let w = s.0 in let l = s.1 in (
  series-b c.args.self.now.workable c.in_grains.ensures,
  record {
    a_long = omega (arith, w, l, c.in_grains);
    b_long = omega (arith, w, l, c.in_grains);
    t_long = omega (arith, w, l, c.in_grains);
    s_long = omega (arith, w, l, c.in_grains);
    w_long = omega (arith, s.2, l, c.in_grains);
  },
)

pub correct_extremes-requires : goal.correct_extremes-requires
correct_extremes-requires c = let s = c.requires in (
  correctable_b c.args.self.now.workable c.in_grains.ensures c.pass_b.ensures,
  omega (arith, s.1, c.in_grains),
  omega (arith, s.0, c.pass_b),
  omega (arith, s.0, c.pass_b),
  omega (arith, s.2, c.pass_b),
)

pub returns : goal.returns
returns c = to_c1 c.args.self.now.workable c.in_grains.ensures c.pass_b.ensures c.correct_extremes.ensures

-- `three_passes::final_tables` meets its contract: each call leaves the next table of pass D.
use native.Mathlib.Omega.{arith}
use Rattle.three_passes.proofs.Passes.{series, adjustable, beside, minusable, finished}
use Rattle.three_passes.proofs.final_tables.Goals as goal

pub one_pass-requires : goal.one_pass-requires
one_pass-requires c = let w = c.requires.1 in let l = c.requires.0.x_long in
    (series c.requires.0, record { a_long = omega (arith, w, l); b_long = omega (arith, w, l); out_long = omega (arith, w, l) }, omega (arith, w, l))

pub trend-requires : goal.trend-requires
trend-requires c = (adjustable c.requires.0 c.args.chosen c.one_pass.ensures.seasonal, omega (arith, c.requires.1, c.requires.0.x_long), omega (arith, c.requires.1, c.requires.0.x_long))

pub adjusted-requires : goal.adjusted-requires
adjusted-requires c = (beside c.requires.0 c.args.chosen c.one_pass.ensures.seasonal, omega (arith, c.requires.1))

pub minus-requires : goal.minus-requires
minus-requires c = (minusable c.requires.0 c.args.chosen c.args.terms c.one_pass.ensures.seasonal c.adjusted.ensures c.trend.ensures, omega (arith, c.requires.1))

pub returns : goal.returns
returns c = finished c.one_pass.ensures.seasonal c.adjusted.ensures c.trend.ensures c.minus.ensures

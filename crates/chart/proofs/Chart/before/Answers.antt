-- `chart::Chart::before` meets its contract: the closed form of the count.
use native.Mathlib.Omega.{arith}
use Rattle.chart.proofs.Places.{before_computed}
use Rattle.chart.proofs.Chart.before.Goals as goal

pub returns : goal.returns
returns c = let s = c.args.self in rw (c.min.ensures, c.min-2.ensures) (before_computed s.period s.start s.charted.starts s.count c.args.c (omega arith))

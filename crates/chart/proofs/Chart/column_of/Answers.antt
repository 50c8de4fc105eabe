-- `chart::Chart::column_of` meets its contract.
use mathlib.Core.Path.{refl}
use native.Mathlib.Nat.{mod-lt}
use native.Mathlib.Omega.{arith}
use Rattle.chart.specs.Chart.{column_of}
use Rattle.chart.proofs.Chart.column_of.Goals as goal

pub returns : goal.returns
unfolding column_of
returns c = (refl, mod-lt _ (omega arith))

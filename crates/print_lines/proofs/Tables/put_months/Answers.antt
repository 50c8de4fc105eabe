use mathlib.Core.Path.{ap}
use native.Mathlib.Omega.{arith}
use lib.ListN.{length}
use Rattle.print_lines.specs.Text.{SeriesTables}
use Rattle.print_lines.proofs.LineLaws.{lines_none, lines_more, lines_all}
use Rattle.print_lines.proofs.Tables.put_months.Goals as goal

pub loop-t-init : goal.loop-t-init
loop-t-init c = lines_none

pub loop-t-preserved : goal.loop-t-preserved
loop-t-preserved c = lines_more c.loop-t.invariant c.month.ensures c.put.ensures

pub returns : goal.returns
returns c = lines_all c.loop-t.invariant (omega (arith, ap (λ (s : SeriesTables). length s.figures) c.self.view_is))

-- `chart::Chart::months` meets its contract: January's first month stands first.
use Rattle.chart.proofs.Loops.{reached_first}
use Rattle.chart.proofs.Chart.months.Goals as goal

pub invariant_of-result : goal.invariant_of-result
invariant_of-result c = let h = c.args.self.charted in record { reached = reached_first h.starts h.full c.first_in.ensures.0 }

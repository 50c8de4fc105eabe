-- `chart::Chart::next` meets its contract: further down the column, or to the top of the next.
use mathlib.Core.Path.{◌∙◌}
use Rattle.chart.proofs.Loops.{next_down, next-column}
use Rattle.chart.proofs.Chart.next.Goals as goal

pub returns-then-t-self : goal.returns-then-t-self
returns-then-t-self c = let s = c.args.self in next_down s.period s.start s.charted.starts s.count c.args.t c.if-t-self.true

pub returns : goal.returns
returns c =
    let s = c.args.self in
    next-column s.period s.start s.charted.starts s.count c.args.t c.first_in.result s.charted.full c.requires c.if-t-self.false (c.first_in.ensures.0 ∙ rw c.column_of.ensures.0)

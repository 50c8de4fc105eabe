-- `print_lines::Tables::put` meets its contract: line one, then the lines of the months.
use mathlib.Core.Path.{ap}
use native.Mathlib.Omega.{arith}
use lib.ListN.{length}
use Rattle.decimals.proofs.StoringLaws.{put-then, put-within}
use Rattle.print_lines.specs.Text.{SeriesTables, tables_text}
use Rattle.print_lines.proofs.Tables.put.Goals as goal

pub returns : goal.returns
unfolding tables_text
returns c =
    put-within
    (put-then (rw (ap (λ (s : SeriesTables). length s.figures) c.self.view_is) at c.put_first_line.ensures) c.put_months.ensures)
    (omega arith)

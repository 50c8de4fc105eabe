-- `print_lines::Tables::put_months` meets its contract: the lines of t months are put.
use Rattle.print_lines.proofs.LineLaws.{MonthsPut}
use Rattle.print_lines.proofs.Tables.put_months.Given as goal

abbrev pub invariant-loop-t : goal.invariant-loop-t
invariant-loop-t l = MonthsPut l.self l.t l.initial.text l.text

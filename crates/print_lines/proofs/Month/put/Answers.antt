-- `print_lines::Month::put` meets its contract: t, the figure, the four entries and the weight one after the other.
use native.Mathlib.Omega.{arith}
use Rattle.print_lines.proofs.LineLaws.{number_kept, line-of-month}
use Rattle.print_lines.proofs.Month.put.Goals as goal

pub returns : goal.returns
returns c =
    line-of-month
    c.args.self
    c.put.ensures
    (number_kept (record { sfits = omega arith }) c.put_spaced.ensures)
    c.put_entries.ensures
    c.put_spaced-2.ensures
    c.put_byte.ensures

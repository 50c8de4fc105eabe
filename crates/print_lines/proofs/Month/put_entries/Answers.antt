-- `print_lines::Month::put_entries` meets its contract: the four entries one after the other.
use native.Mathlib.Omega.{arith}
use Rattle.decimals.proofs.StoringLaws.{put-then}
use Rattle.print_lines.proofs.LineLaws.{number_kept}
use Rattle.print_lines.proofs.Month.put_entries.Goals as goal

pub returns : goal.returns
returns c =
    put-then (put-then (put-then
    (number_kept (record { sfits = omega arith }) c.put_spaced.ensures)
    (number_kept (record { sfits = omega arith }) c.put_spaced-2.ensures))
    (number_kept (record { sfits = omega arith }) c.put_spaced-3.ensures))
    (number_kept (record { sfits = omega arith }) c.put_spaced-4.ensures)

-- `members_sheet::filling::AcceptedSheet::fill` meets its contract: the months before t are filled with the figures of their cells, and the total is the
-- sum over them.
use mathlib.Core.Path.{◌≡◌}
use lib.IntN.{pos}
use Rattle.integers.specs.Filling.{Filled}
use Rattle.doubles.specs.Doubles.{number_in}
use Rattle.sheet_cells.specs.Cells.{cell_at, newest}
use Rattle.members_sheet.specs.Series.{summed}
use Rattle.members_sheet.proofs.filling.AcceptedSheet.fill.Given as goal

abbrev pub invariant-loop-t : goal.invariant-loop-t
invariant-loop-t l =
    Filled (pos 0) (λ k. number_in (newest (cell_at l.self.cells.sheet.now k))) 0 l.t l.initial.figures l.figures × (l.total ≡ summed l.self.cells.sheet.now l.t)

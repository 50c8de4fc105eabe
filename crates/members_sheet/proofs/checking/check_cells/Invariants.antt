-- `members_sheet::checking::check_cells` meets its contract: no check applies to the cells before t.
use Rattle.members_sheet.specs.AllAccepted.{AllAccepted}
use Rattle.members_sheet.proofs.checking.check_cells.Given as goal

abbrev pub invariant-loop-t : goal.invariant-loop-t
invariant-loop-t l = AllAccepted l.cells.sheet.now l.t

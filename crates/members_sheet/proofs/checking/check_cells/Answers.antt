use Rattle.std.proofs.Common.{rules}
use Rattle.members_sheet.proofs.CheckingLaws.{stopped_here}
use Rattle.members_sheet.proofs.checking.check_cells.Goals as goal

pub returns-in_err-check : goal.returns-in_err-check
returns-in_err-check c = let s = stopped_here c.loop-t.invariant c.loop-t-test.true c.in_err-check.ensures in search (rules, s)

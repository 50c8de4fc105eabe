-- `members_sheet::read_sheet` meets its contract: what the checks found decides, and nothing is stored before.
use Rattle.std.proofs.Common.{rules, refl}
use Rattle.members_sheet.proofs.Answers.{refused, accepted}
use Rattle.members_sheet.proofs.read_sheet.Goals as goal

pub returns-in_err-accepted : goal.returns-in_err-accepted
returns-in_err-accepted c = let s = refused c.in_err-accepted.ensures refl in search (rules, s)

pub returns : goal.returns
returns c = let f = c.fill-total.ensures in accepted _ c.in_ok-accepted.ensures f.1 f.0

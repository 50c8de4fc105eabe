-- `vepsjalm::vepsjalm_decompose` meets its contract: the answer's number and place, and the slices as they are promised.
use Rattle.vepsjalm.proofs.Answers.{has_tables, not-tables}
use Rattle.vepsjalm.proofs.vepsjalm_decompose.Goals as goal

pub returns-in-Ok : goal.returns-in-Ok
returns-in-Ok c = has_tables c.decompose.ensures c.in-Ok.is

pub returns-in-Err : goal.returns-in-Err
returns-in-Err c = not-tables c.decompose.ensures c.in-Err.is c.number.ensures c.place.ensures

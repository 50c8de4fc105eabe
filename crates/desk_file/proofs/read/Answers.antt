-- `desk_file::read` meets its contract: what reading in the plain form found.
use Rattle.std.proofs.lemmas.Result.{err_from_is_err_and}
use Rattle.desk_file.proofs.Answers.{read_refused, read_done}
use Rattle.desk_file.proofs.read.Goals as goal

pub returns-in_err-sized : goal.returns-in_err-sized
returns-in_err-sized c = let p = err_from_is_err_and c.from_residual.result c.from_residual.ensures.1 in rw (p.1, p.2) (read_refused c.in_err-sized.ensures)

pub returns : goal.returns
returns c = read_done c.in_ok-sized.ensures.0

-- `desk_columns::to_columns` meets its contract: what moving forward found.
use Rattle.std.proofs.lemmas.Result.{err_from_is_err_and}
use Rattle.desk_columns.proofs.Answers.{forward_refused, forward_done}
use Rattle.desk_columns.proofs.to_columns.Goals as goal

pub returns-in_err-moved : goal.returns-in_err-moved
returns-in_err-moved c = let p = err_from_is_err_and c.from_residual.result c.from_residual.ensures.1 in rw (p.1, p.2) (forward_refused c.in_err-moved.ensures)

pub returns : goal.returns
returns c = forward_done c.in_ok-moved.ensures.0 c.length.ensures

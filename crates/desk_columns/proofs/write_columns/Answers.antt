-- `desk_columns::write_columns` meets its contract: what writing by calendar month found.
use Rattle.std.proofs.lemmas.Result.{err_from_is_err_and}
use Rattle.desk_columns.proofs.Answers.{write_refused, write_done}
use Rattle.desk_columns.proofs.write_columns.Goals as goal

pub returns-in_err-write : goal.returns-in_err-write
returns-in_err-write c = let p = err_from_is_err_and c.from_residual.result c.from_residual.ensures.1 in rw (p.1, p.2) (write_refused c.in_err-write.ensures)

pub returns : goal.returns
returns c = write_done c.in_ok-write.ensures c.length.ensures

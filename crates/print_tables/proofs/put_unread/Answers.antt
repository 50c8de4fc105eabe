-- `print_tables::put_unread` meets its contract: the line of the refusal, or nothing.
use mathlib.Core.Path.{sym, ap}
use native.Mathlib.Omega.{arith}
use Rattle.std.specs.Prelude.{Result}
use Rattle.refusals.specs.declared.Refusal.{Refusal}
use Rattle.desk_file.specs.declared.Series.{Series}
use Rattle.desk_file.specs.ReadFile.{read_says}
use Rattle.print_tables.specs.Printed.{unread_text}
use Rattle.decimals.proofs.StoringLaws.{put-nothing, put-eq, put-within}
use Rattle.print_tables.proofs.put_unread.Goals as goal

pub returns-in-Err : goal.returns-in-Err
unfolding unread_text
returns-in-Err c = put-within (put-eq (ap (λ (r : Result Series Refusal). unread_text (read_says r)) (sym c.in-Err.is)) c.put_refusal.ensures) (omega arith)

pub returns-in_default : goal.returns-in_default
unfolding unread_text
returns-in_default c = put-within (put-eq (ap (λ (r : Result Series Refusal). unread_text (read_says r)) (sym c.in_default.is)) put-nothing) (omega arith)

-- `print_tables::put_series` meets its contract: the first n places of each array are lent, and then hold the tables.
use mathlib.Core.Path.{refl}
use native.Mathlib.Omega.{arith}
use Rattle.integers.proofs.Fronts.{front_back}
use Rattle.decimals.proofs.StoringLaws.{put-eq, put-within}
use Rattle.print_tables.proofs.PrintLaws.{fronts_lent, tables-printed, refusal-printed}
use Rattle.print_tables.proofs.put_series.Goals as goal

pub returns-in-Ok : goal.returns-in-Ok
returns-in-Ok c =
    let d = c.decompose-answer in
    let long = c.requires.1 in
    put-eq
    (tables-printed d.ensures (fronts_lent _ _ _ _ long long refl) c.in-Ok.is
    (front_back _ _ long d.new.d10 d.auto.d10)
    (front_back _ _ long d.new.d11 d.auto.d11)
    (front_back _ _ long d.new.d12 d.auto.d12)
    (front_back _ _ long d.new.d13 d.auto.d13)
    (front_back _ _ long d.new.c17 d.auto.c17))
    c.put.ensures

pub returns-in-Err : goal.returns-in-Err
returns-in-Err c =
    put-within
    (put-eq (refusal-printed c.decompose-answer.ensures (fronts_lent _ _ _ _ c.requires.1 c.requires.1 refl) _ c.in-Err.is) c.put_refusal.ensures)
    (omega arith)

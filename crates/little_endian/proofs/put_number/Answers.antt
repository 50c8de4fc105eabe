use mathlib.Core.Path.{sym, ◌∙◌}
use native.Mathlib.Omega.{arith}
use Rattle.little_endian.proofs.NumberLaws.{write_more, write-none}
use Rattle.little_endian.proofs.put_number.Goals as goal

pub loop-i-preserved : goal.loop-i-preserved
loop-i-preserved c =
    let s = c.args in c.loop-i.invariant ∙ write_more c.loop-i.out s.at s.width c.loop-i.i c.loop-i.rest (omega arith)

pub returns : goal.returns
returns c =
    let s = c.args in
    sym (c.loop-i.invariant ∙ write-none c.loop-i.out s.at s.width c.loop-i.i c.loop-i.rest (omega arith))

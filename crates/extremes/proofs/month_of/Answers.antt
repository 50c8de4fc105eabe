-- `extremes::month_of` meets its contract: by its definition; it is at most the period.
use mathlib.Core.Path.{refl}
use Rattle.extremes.specs.Years.{month_of}
use Rattle.extremes.proofs.YearLaws.{month-inside}
use Rattle.extremes.proofs.month_of.Goals as goal

pub returns : goal.returns
unfolding month_of
returns c = let a = c.args in let i = month-inside a.start a.period a.t c.requires.0 c.requires.1 in (rw (c.from.ensures, c.from-2.ensures) refl, rw (c.from.ensures, c.from-2.ensures) i.0, rw (c.from.ensures, c.from-2.ensures) i.1)

-- `refusals::years_outside` meets its contract: the first year below the limits, or else the last above them.
use mathlib.Core.Path.{refl, ◌∙◌}
use borrow.Author.Tests.{lt-ltb}
use Rattle.refusals.specs.Inside.{last_year}
use Rattle.refusals.proofs.InsideLaws.{years-before, years-after}
use Rattle.refusals.proofs.years_outside.Goals as goal

pub returns-then-year-lt-EARLIEST_YEAR : goal.returns-then-year-lt-EARLIEST_YEAR
returns-then-year-lt-EARLIEST_YEAR c = lt-ltb _ _ c.if-year-lt-EARLIEST_YEAR.true ∙ years-before _ _ _ c.if-year-lt-EARLIEST_YEAR.true

pub returns-else-year-lt-EARLIEST_YEAR : goal.returns-else-year-lt-EARLIEST_YEAR
unfolding last_year
returns-else-year-lt-EARLIEST_YEAR c = let a = c.args in years-after a.year a.start a.n _ refl c.if-year-lt-EARLIEST_YEAR.false

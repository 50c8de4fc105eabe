-- `refusals::start_outside` meets its contract: below 1, or else above the year.
use borrow.Author.Tests.{le-leb, lt-leb, lt-ltb}
use Rattle.refusals.specs.Inside.{start_inside}
use Rattle.refusals.proofs.InsideLaws.{above}
use Rattle.refusals.specs.Limits.{months_of_year}
use Rattle.refusals.proofs.start_outside.Goals as goal

pub returns-then-start-lt1 : goal.returns-then-start-lt1
unfolding start_inside
returns-then-start-lt1 c = rw (lt-ltb c.args.start 1 c.if-start-lt1.true, lt-leb 1 c.args.start c.if-start-lt1.true)

pub returns-else-start-lt1 : goal.returns-else-start-lt1
unfolding start_inside
returns-else-start-lt1 c = rw (le-leb 1 c.args.start c.if-start-lt1.false) (above months_of_year c.args.start)

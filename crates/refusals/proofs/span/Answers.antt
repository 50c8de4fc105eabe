-- `refusals::span` meets its contract: each return is the first of rows 1 to 3 that applies.
use mathlib.Core.Path.{sym, ◌∙◌}
use borrow.Author.Tests.{lt-ltb, le-ltb, not-false}
use Rattle.refusals.proofs.CheckLaws.{◌&◌, row-applies}
use Rattle.refusals.proofs.span.Goals as goal

pub returns-then-n-lt-LEAST_MONTHS : goal.returns-then-n-lt-LEAST_MONTHS
returns-then-n-lt-LEAST_MONTHS c = record { at = 0; before = tt; here = row-applies 1 (lt-ltb _ _ c.if-n-lt-LEAST_MONTHS.true) }

pub returns-then-n-gt-MOST_MONTHS : goal.returns-then-n-gt-MOST_MONTHS
returns-then-n-gt-MOST_MONTHS c = record { at = 1; before = le-ltb _ _ c.if-n-lt-LEAST_MONTHS.false & tt; here = row-applies 2 (lt-ltb _ _ c.if-n-gt-MOST_MONTHS.true) }

pub returns-then-start_outside : goal.returns-then-start_outside
returns-then-start_outside c = record { at = 2; before = le-ltb _ _ c.if-n-lt-LEAST_MONTHS.false & le-ltb _ _ c.if-n-gt-MOST_MONTHS.false & tt; here = row-applies 3 (sym c.start_outside.ensures ∙ c.if-start_outside.true) }

pub returns : goal.returns
returns c = record { least = c.if-n-lt-LEAST_MONTHS.false; most = c.if-n-gt-MOST_MONTHS.false; inside = not-false _ (sym c.start_outside.ensures ∙ c.if-start_outside.false) }

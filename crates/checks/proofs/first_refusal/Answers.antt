-- `checks::first_refusal` meets its contract: each return is the first row that applies.
use mathlib.Core.Path.{sym}
use Rattle.std.proofs.Common.{rules}
use Rattle.checks.proofs.Rows.{by_span, wrong-length, outside, fine}
use Rattle.checks.proofs.first_refusal.Goals as goal

pub returns-in_err-span : goal.returns-in_err-span
returns-in_err-span c = search (rules, by_span)

pub returns-then-not-fitting : goal.returns-then-not-fitting
returns-then-not-fitting c = wrong-length c.args.start c.args.figures.now c.args.lent c.in_ok-span.ensures (sym c.if-not-fitting.ensures)

pub returns-in-Some : goal.returns-in-Some
returns-in-Some c = outside c.args.start c.args.figures.now c.args.lent c.in_ok-span.ensures (sym c.if-not-fitting.ensures) _ (sym c.in-Some.ensures)

pub returns-in-None : goal.returns-in-None
returns-in-None c = fine c.args.start c.args.figures.now c.args.lent c.in_ok-span.ensures (sym c.if-not-fitting.ensures) (sym c.in-None.ensures)

-- `refusals::figure_outside` meets its contract: below the least figure, or else above the largest.
use Prim.Native.Nat.{suc}
use mathlib.Core.Path.{◌≡◌, sym, ap, ◌∙◌}
use mathlib.Core.Bool.{true, false, not}
use native.Mathlib.Omega.{arith}
use borrow.Author.Tests.{le-leb, lt-leb, ltb-true, ltb-false}
use lib.IntN.{ℤ, pos, negsuc}
use lib.Signed.{lt_z}
use mir.Syntax.{w32}
use mir.Val.{to_z, of_z}
use mir.Facts.{to_z-of_z}
use Rattle.refusals.specs.Limits.{largest_figure}
use Rattle.refusals.specs.Inside.{figure_inside}
use Rattle.refusals.proofs.InsideLaws.{above}
use Rattle.refusals.proofs.figure_outside.Lts as lts
use Rattle.refusals.proofs.figure_outside.Reads as reads
use Rattle.refusals.proofs.figure_outside.Goals as goal

abbrev Start : Type 0
Start = lts.Start reads.Pre reads.Post

below-least : (z : ℤ) → lt_z z (negsuc 199999) ≡ true → true ≡ not (figure_inside z)
unfolding figure_inside
below-least (pos n) t = cc
below-least (negsuc k) t = sym (ap not (lt-leb (suc k) largest_figure (omega (arith, ltb-true 199999 k t))))

not-below : (z : ℤ) → lt_z z (negsuc 199999) ≡ false → lt_z (pos largest_figure) z ≡ not (figure_inside z)
unfolding figure_inside
not-below (pos n) t = above largest_figure n
not-below (negsuc k) t = sym (ap not (le-leb (suc k) largest_figure (omega (arith, ltb-false 199999 k t))))

-- the figure, as the machine reads it from its bits
same : (s : Start) → to_z w32 (of_z w32 s.args.figure) ≡ s.args.figure
same s = to_z-of_z s.ranges.figure

pub returns-then-figure : goal.returns-then-figure
returns-then-figure c = c.if-figure.true ∙ below-least c.args.figure (rw (same c.before) at c.if-figure.true)

pub returns-else-figure : goal.returns-else-figure
returns-else-figure c = rw (same c.before) (not-below c.args.figure (rw (same c.before) at c.if-figure.false))

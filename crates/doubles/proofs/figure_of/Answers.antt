-- `doubles::figure_of` meets its contract: a double counts exactly where it equals its whole part and that is a figure.
use Rattle.std.proofs.Common.{◌≡◌, true, false, not, None, Some, ℤ, sym, ap, ◌∙◌, w32, SFits, to_z, of_z}
use borrow.Author.Rules.{sfits_of}
use borrow.Author.Tests.{not-true, not-false}
use lib.Ieee.{Float, binary64, eq, of_int, to_signed}
use mir.Facts.{to_z-of_z}
use Rattle.refusals.specs.Inside.{figure_inside}
use Rattle.doubles.specs.Promises.{figure_of}
use Rattle.doubles.proofs.Counting.{part-number, part-test}
use Rattle.doubles.proofs.figure_of.Goals.{else-figure-x-via-then-figure-x+else-not-figure_outside, else-figure-x-via-else-figure-x}
use Rattle.doubles.proofs.figure_of.Goals as goal

-- the whole part as the machine reads it from its bits: what the two tests of it say
module _ (x : Float) {z : ℤ} (f : SFits w32 z) (e : z ≡ to_signed 31 x) where
  part : to_z w32 (of_z w32 z) ≡ to_signed 31 x
  part = to_z-of_z f ∙ e

  equal : eq (of_int binary64 (to_z w32 (of_z w32 z))) x ≡ true → false ≡ not (figure_inside (to_z w32 (of_z w32 z))) → Some (to_z w32 (of_z w32 z)) ≡ figure_of x
  unfolding figure_of
  equal t h =
      let i = not-false _ (sym (rw part at h)) in
      rw (part-test x, rw part at t, i) (rw part (ap Some (part-number x i)))

  outside : true ≡ not (figure_inside (to_z w32 (of_z w32 z))) → eq (of_int binary64 (to_z w32 (of_z w32 z))) x ≡ true → None ≡ figure_of x
  unfolding figure_of
  outside h t = rw (part-test x, rw part at t, not-true _ (sym (rw part at h)))

  other : eq (of_int binary64 (to_z w32 (of_z w32 z))) x ≡ false → None ≡ figure_of x
  unfolding figure_of
  other t = rw (part-test x, rw part at t)

pub returns-then-not-figure_outside : goal.returns-then-not-figure_outside
returns-then-not-figure_outside c =
    let w = c.saturating_f64_to_i32-figure in
    equal c.args.x (sfits_of w.type_inv) w.ensures c.if-figure-x.true c.if-not-figure_outside.ensures

pub returns-else-figure-x : goal.returns-else-figure-x
returns-else-figure-x c =
    let w = c.saturating_f64_to_i32-figure in
    elim c.else-figure-x.branch [
      | else-figure-x-via-then-figure-x+else-not-figure_outside b ↦ outside c.args.x (sfits_of w.type_inv) w.ensures b.if-not-figure_outside.ensures b.if-figure-x.true
      | else-figure-x-via-else-figure-x b ↦ other c.args.x (sfits_of w.type_inv) w.ensures b.if-figure-x.false
    ]

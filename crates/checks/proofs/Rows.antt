-- Rows 1 to 5: what each test on the way says of the answer.
use mathlib.Core.Path.{◌≡◌, sym, ap}
use mathlib.Core.Bool.{true, false, not}
use mathlib.Core.List.{List}
use Prim.Native.Nat.{ℕ, ◌+◌, ◌≤◌}
use native.Mathlib.Omega.{arith}
use native.Mathlib.Decide.{dec_le}
use borrow.Author.Tests.{eqb-true, leb-true}
use lib.Dec.{eqb}
use lib.ListN.{length, get_or-eq_default}
use lib.IntN.{ℤ, pos}
use Rattle.integers.specs.Sizes.{◌within◌}
use Rattle.integers.proofs.SizeLaws.{by-abs}
use Rattle.integers.specs.Lists.{◌‼◌, AllWithin}
use Rattle.refusals.specs.Limits.{largest_figure}
use Rattle.refusals.specs.Inside.{figure_inside}
use Rattle.refusals.proofs.InsideLaws.{both, start-inside, figure-inside}
use Rattle.refusals.specs.First.{first_outside}
use Rattle.refusals.specs.Sheet.{success, refusal_of}
use Rattle.refusals.proofs.FirstLaws.{NoneBefore, all_passed}
use Rattle.refusals.specs.Promises.{Before, Stopped, span_checks, SpanFits}
use Rattle.refusals.proofs.CheckLaws.{one_more, row-applies, each_applies, each_passed, stopped_more, stopped, none-applies, span_passed}
use Rattle.refusals.specs.declared.Refusal.{Refusal}
use Rattle.std.specs.Prelude.{Some, None}
use Rattle.refusals.specs.declared.Refusal.TheVariants.{WrongLength, FigureOutside}
use Rattle.scratch.specs.Scratch.{scratch_for}
use Rattle.checks.specs.Answer.{fitting, decompose_checks, answer_for}
use Rattle.checks.specs.Promises.{Fits, Accepts}
use Rattle.checks.specs.declared.Lengths.{Lengths}

-- figures of which none is outside
all-inside : (f : List ℤ) → first_outside f ≡ None → AllWithin largest_figure f
unfolding first_outside
all-inside f e = record { at = λ t. go t (dec_le (t + 1) (length f)) }
  where
    inside : NoneBefore (pos 0) figure_inside f (length f)
    inside = all_passed e

    go : (t : ℕ) → Dec (t + 1 ≤ length f) → (f ‼ t) within largest_figure
    go t (yes l) = by-abs (figure-inside (f ‼ t) (inside.each t (omega arith)))
    go t (no l) = let k : length f ≤ t = omega arith in rw (get_or-eq_default f (pos 0) k) (by-abs (omega arith))

-- row 4, taken apart
fits : (n : ℕ) (l : Lengths) → fitting n l ≡ true → Fits n l
unfolding fitting
fits n l e =
    let a = both (eqb l.d10 n) _ e in
    let b = both (eqb l.d11 n) _ a.1 in
    let c = both (eqb l.d12 n) _ b.1 in
    let d = both (eqb l.d13 n) _ c.1 in
    let g = both (eqb l.b17 n) _ d.1 in
    let h = both (eqb l.c17 n) _ g.1 in
    record {
      d10_long = eqb-true l.d10 n a.0;
      d11_long = eqb-true l.d11 n b.0;
      d12_long = eqb-true l.d12 n c.0;
      d13_long = eqb-true l.d13 n d.0;
      b17_long = eqb-true l.b17 n g.0;
      c17_long = eqb-true l.c17 n h.0;
      scratch_long = leb-true (scratch_for n) l.scratch h.1;
    }

module _ (start : ℕ) (f : List ℤ) (l : Lengths) where
  refuses : (q : Refusal) → Stopped q (decompose_checks start f l) → answer_for start f l ≡ refusal_of q
  unfolding answer_for
  refuses q s = sym (stopped (success tt) s)

  -- rows 1 to 3
  pub by_span : (q : Refusal) → Stopped q (span_checks (length f) start) → answer_for start f l ≡ refusal_of q
  by_span q s = refuses q (stopped_more _ s)

  -- the span fits
  module _ (h : SpanFits (length f) start) where
    three : Before 3 (decompose_checks start f l)
    three = span_passed h

    pub wrong-length : fitting (length f) l ≡ false → answer_for start f l ≡ refusal_of WrongLength
    wrong-length d = refuses WrongLength (record { at = 3; before = three; here = row-applies 4 (ap not d) })

    module _ (d : fitting (length f) l ≡ true) where
      four : Before 4 (decompose_checks start f l)
      four = one_more (decompose_checks start f l) 3 three (ap not d)

      pub outside : (t : ℕ) → first_outside f ≡ Some t → answer_for start f l ≡ refusal_of (FigureOutside t)
      outside t e = refuses (FigureOutside t) (record { at = 4; before = four; here = each_applies 5 e })

      pub fine : first_outside f ≡ None → Accepts start f l
      unfolding answer_for
      fine e = record {
        workable = record {
          figures = record { short = h.most; small = all-inside f e };
          long = h.least;
          early = (start-inside start h.inside).0;
          late = (start-inside start h.inside).1;
        };
        fits = fits (length f) l d;
        answer_is = sym (none-applies (decompose_checks start f l) (success tt) (one_more (decompose_checks start f l) 4 four (each_passed 5 e)));
      }

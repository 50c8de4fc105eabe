-- The promise at each return of decomposing.
use mathlib.Core.Path.{◌≡◌, refl, sym, ◌∙◌}
use mathlib.Core.List.{List}
use Prim.Native.Nat.{ℕ}
use lib.IntN.{ℤ}
use Rattle.refusals.specs.Sheet.{refusal_of}
use Rattle.refusals.specs.declared.Refusal.{Refusal}
use Rattle.refusals.proofs.CheckLaws.{no-success}
use Rattle.tables.proofs.Nearness.{passes_near, near-at}
use Rattle.checks.specs.Answer.{answer_for}
use Rattle.checks.specs.Promises.{Accepts}
use Rattle.decompose.specs.Promise.{Slices, lengths_of, answer, after, Promise, RefusalTouchesNothing}
use Rattle.three_passes.specs.Promises.{PassesDone}
use Rattle.std.specs.Prelude.{Result, Ok, Err}

-- ---- a refusal
pub refused : {start : ℕ} {f : List ℤ} {lent : Slices} {r : Result Unit Refusal} (q : Refusal) → r ≡ Err q → answer_for start f (lengths_of lent) ≡ refusal_of q
    → Promise start f lent r lent
unfolding answer after
refused {start} {f} {lent} {r} q e h = record {
  answered = rw (e, h);
  slices = rw h;
  near = λ s. absurd (no-success (rw e at s));
  passes = passes_near start f;
}

-- whatever keeps the promise leaves every slice as it was
pub refusal-touches-nothing : RefusalTouchesNothing
unfolding after
refusal-touches-nothing start f lent left q p = p.slices ∙ rw (← p.answered)

-- ---- the tables
unfoldable made : List ℤ → List ℤ → List ℤ → List ℤ → List ℕ → List ℕ → List ℤ → Slices
made a b c d e f g = record { d10 = a; d11 = b; d12 = c; d13 = d; b17 = e; c17 = f; scratch = g }

made_is : (s : Slices) → made s.d10 s.d11 s.d12 s.d13 s.b17 s.c17 s.scratch ≡ s
unfolding made
made_is s = refl

same : (s t : Slices) → s.d10 ≡ t.d10 → s.d11 ≡ t.d11 → s.d12 ≡ t.d12 → s.d13 ≡ t.d13 → s.b17 ≡ t.b17 → s.c17 ≡ t.c17 → s.scratch ≡ t.scratch → s ≡ t
same s t a b c d e f g = sym (made_is s) ∙ rw (a, b, c, d, e, f, g) (made_is t)

pub tables : {start : ℕ} {f : List ℤ} {lent left : Slices} → Accepts start f (lengths_of lent)
    → PassesDone start f left.d10 left.d11 left.d12 left.d13 left.b17 left.c17 lent.scratch left.scratch → Promise start f lent (Ok tt) left
unfolding answer after
tables {start} {f} {lent} {left} h k = record {
  answered = sym h.answer_is;
  slices = rw h.answer_is (same left _ k.d10_is k.d11_is k.d12_is k.d13_is k.b17_is k.c17_is k.scratch_is);
  near = λ e i l. rw (k.d10_is, k.d11_is, k.d12_is, k.d13_is) (near-at start f i l);
  passes = passes_near start f;
}

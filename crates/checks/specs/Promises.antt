-- What the checks find, for the entry point. Nothing here is promised to a caller of the desk.
use Rattle.std.specs.Prelude.{◌≡◌, List, ℕ, ◌≤◌, length, ℤ, Result, Ok, Err}
use Rattle.series.specs.Promises.{Workable}
use Rattle.scratch.specs.Scratch.{scratch_for}
use Rattle.refusals.specs.Sheet.{success, refusal_of}
use Rattle.checks.specs.declared.Lengths.{Lengths}
use Rattle.refusals.specs.declared.Refusal.{Refusal}
use Rattle.checks.specs.Answer.{answer_for}

-- slices that are as long as row 4 wants them
pub record Fits (n : ℕ) (l : Lengths) : Type 0 where
  pub d10_long : l.d10 ≡ n
  pub d11_long : l.d11 ≡ n
  pub d12_long : l.d12 ≡ n
  pub d13_long : l.d13 ≡ n
  pub b17_long : l.b17 ≡ n
  pub c17_long : l.c17 ≡ n
  pub scratch_long : scratch_for n ≤ l.scratch

-- no row applies, and what follows from it
pub record Accepts (start : ℕ) (f : List ℤ) (lent : Lengths) : Type 0 where
  pub workable : Workable start f
  pub fits : Fits (length f) lent
  pub answer_is : answer_for start f lent ≡ success tt

-- no row applies, or the first that does is q's
abbrev pub Checked : Result Unit Refusal → ℕ → List ℤ → Lengths → Type 0
Checked (Ok done) start f lent = Accepts start f lent
Checked (Err q) start f lent = answer_for start f lent ≡ refusal_of q

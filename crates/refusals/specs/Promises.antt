-- What the checks find, for the crates above: a program that has passed i checks of a list keeps `Before i`, and where it refuses, `Stopped`. Nothing
-- here is promised to a caller of the desk.
use Rattle.std.specs.Prelude.{ℕ, zero, suc, ◌≤◌, ◌≡◌, true, false, List, [], ◌∷◌, Result, Ok, Err}
use Rattle.refusals.specs.declared.Refusal.{Refusal}
use Rattle.refusals.specs.Limits.{least_months, most_months}
use Rattle.refusals.specs.Inside.{start_inside}
use Rattle.refusals.specs.Sheet.{row}
use Rattle.refusals.specs.Checks.{Check, row1, row2, row3}

-- the first i do not apply
abbrev pub Before : ℕ → List Check → Type 0
Before zero ks = Unit
Before (suc i) [] = ⊥
Before (suc i) (k ∷ ks) = (k.applies ≡ false) × Before i ks

-- the check at place i is c
abbrev pub CheckAt : ℕ → Check → List Check → Type 0
CheckAt i c [] = ⊥
CheckAt zero c (k ∷ ks) = k ≡ c
CheckAt (suc i) c (k ∷ ks) = CheckAt i c ks

-- a check that applies
abbrev pub refusing : ℕ → ℕ → Check
refusing number place = record { number = number; applies = true; place = place }

-- a refusal q is that of the first check that applies
pub record Stopped (q : Refusal) (ks : List Check) : Type 0 where
  pub at : ℕ
  pub before : Before at ks
  pub here : CheckAt at (refusing (row q).number (row q).place) ks

-- rows 1 to 3, which every entry point checks in a row: n months from a start month
abbrev pub span_checks : ℕ → ℕ → List Check
span_checks n start = row1 n ∷ row2 n ∷ row3 start ∷ []

pub record SpanFits (n start : ℕ) : Type 0 where
  pub least : least_months ≤ n
  pub most : n ≤ most_months
  pub inside : start_inside start ≡ true

abbrev pub Spans : Result Unit Refusal → ℕ → ℕ → Type 0
Spans (Ok done) n start = SpanFits n start
Spans (Err q) n start = Stopped q (span_checks n start)

-- METHOD 8.5: an answer as numbers, for callers in other languages: 0 for success, else the refusal's number, which is never 0 (Sheet,
-- UnusedNumbers); its place beside it.
use Rattle.std.specs.Prelude.{ℕ}
use Rattle.refusals.specs.Sheet.{Answer, success, refusal}

-- METHOD 8.5: the number and the place of an answer; the place after a success is 0
abbrev pub number_of : {A : Type 0} → Answer A → ℕ
number_of (success a) = 0
number_of (refusal number place) = number

abbrev pub place_of : {A : Type 0} → Answer A → ℕ
place_of (success a) = 0
place_of (refusal number place) = place

-- METHOD 8.5: the values of a success, and 0 after a refusal
abbrev pub value_of : {A : Type 0} → (A → ℕ) → Answer A → ℕ
value_of f (success a) = f a
value_of f (refusal number place) = 0

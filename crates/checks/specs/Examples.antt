-- METHOD 8.1 to 8.4, the examples of decomposing: rows 1 to 5, and lengths that row 4 lets pass (true) and refuses (false). (Shown in
-- proofs/Examples.antt.)
use Rattle.std.specs.Prelude.{◌≡◌, true, false, cond, ℕ, eqb, ℤ, pos, neg_ℤ}
use Rattle.integers.specs.Lists.{tab}
use Rattle.refusals.specs.Sheet.{Answer, success, refusal}
use Rattle.scratch.specs.Scratch.{scratch_for}
use Rattle.checks.specs.declared.Lengths.{Lengths}
use Rattle.checks.specs.Answer.{fitting, answer_for}

-- METHOD 8.3: how long the slices are: D10 and the scratch as given, the others n
abbrev pub lengths_with : ℕ → ℕ → ℕ → Lengths
lengths_with n d10 scratch = record { d10 = d10; d11 = n; d12 = n; d13 = n; b17 = n; c17 = n; scratch = scratch }

-- METHOD 8.3: for 72 and for 600 months 5n entries of scratch are enough, and one fewer too few; for 72 months 8n are enough, and D10 of 71 or 73
-- entries is refused
pub record RowFour : Type 0 where
  pub enough : fitting 72 (lengths_with 72 72 360) ≡ true
  pub too_few : fitting 72 (lengths_with 72 72 359) ≡ false
  pub more : fitting 72 (lengths_with 72 72 576) ≡ true
  pub enough_600 : fitting 600 (lengths_with 600 600 3000) ≡ true
  pub too_few_600 : fitting 600 (lengths_with 600 600 2999) ≡ false
  pub short_table : fitting 72 (lengths_with 72 71 360) ≡ false
  pub long_table : fitting 72 (lengths_with 72 73 360) ≡ false

-- METHOD 8.1: what decomposing answers to n figures from a start month, 100 each but for the one at t; D10 has d10 entries, the other slices have their
-- lengths
abbrev pub answer_with : ℕ → ℕ → ℕ → ℕ → ℤ → Answer Unit
answer_with n start d10 t figure = answer_for start (tab n (λ k. cond (eqb k t) figure (pos 100))) (lengths_with n d10 (scratch_for n))

-- METHOD 8.1 and 8.2: 71 and 601 figures, start month 13, D10 of 71 entries, 200,001 at t = 0; -200,001 at t = 44; and where every later row applies too,
-- still the first. 72 figures from month 1 with -200,000 at t = 5, and 600 from month 12 with 200,000 at t = 599, are worked
pub record FirstRows : Type 0 where
  pub too_few : answer_with 71 1 71 0 (pos 100) ≡ refusal 1 0
  pub too_many : answer_with 601 1 601 0 (pos 100) ≡ refusal 2 0
  pub month_13 : answer_with 72 13 72 0 (pos 100) ≡ refusal 3 0
  pub d10_of_71 : answer_with 72 1 71 0 (pos 100) ≡ refusal 4 0
  pub figure_at_0 : answer_with 72 1 72 0 (pos 200_001) ≡ refusal 5 0
  pub figure_at_44 : answer_with 72 1 72 44 (neg_ℤ (pos 200_001)) ≡ refusal 5 44
  pub one_first : answer_with 71 13 72 0 (pos 200_001) ≡ refusal 1 0
  pub two_before_three : answer_with 601 13 71 0 (pos 200_001) ≡ refusal 2 0
  pub three_before_four : answer_with 72 13 71 0 (pos 200_001) ≡ refusal 3 0
  pub four_before_five : answer_with 72 1 71 0 (pos 200_001) ≡ refusal 4 0
  pub fewest : answer_with 72 1 72 5 (neg_ℤ (pos 200_000)) ≡ success tt
  pub most : answer_with 600 12 600 599 (pos 200_000) ≡ success tt

-- METHOD 4.4: a flooded January, worked through pass B; METHOD 4.5 and 4.6: the final trend's length and the final seasonal filter of a series, and
-- B17 and C17 of it tenfold (shown in proofs/Examples.antt). The numbers are those of the separately written program.
use Rattle.std.specs.Prelude.{◌≡◌, cond, List, [], ◌∷◌, map, ℕ, ◌+◌, ◌*◌, ◌%◌, eqb, get_or, ℤ, pos, neg_ℤ}
use Rattle.integers.specs.Lists.{tab}
use Rattle.refusals.specs.Limits.{months_of_year}
use Rattle.series.specs.Operations.{times}
use Rattle.steps.specs.Choices.{plain_monthly}
use Rattle.steps.specs.Steps.{S2}
use Rattle.tables.specs.PassB.{weights_b4, weights_b9}
use Rattle.tables.specs.Tables.{B1, B10, B17, C17, D12}

-- METHOD 4.4: 72 figures from start month 7, each 1,000 and the remainder of t times t by 17; but 500 at t = 18, the second January
unfoldable pub flooded : List ℤ
flooded = tab 72 (λ t. cond (eqb t 18) (pos 500) (pos (1000 + (t * t) % 17)))

-- of a list, `count` places whole years apart, from place `first` on; d stands past the end
abbrev pub year_by_year : {A : Type 0} → A → ℕ → ℕ → List A → List A
year_by_year d first count l = tab count (λ i. get_or l (first + months_of_year * i) d)

-- METHOD 4.4: what the Januaries get, t = 6, 18, .., 66; SI1 has the first five of them, from its place 0 on
pub record FloodedJanuary : Type 0 where
  pub weights_si1 : year_by_year 0 0 5 (weights_b4 7 (B1 7 flooded)) ≡ 0 ∷ 0 ∷ 0 ∷ 0 ∷ 1000 ∷ []
  pub weights_si2 : year_by_year 0 6 6 (weights_b9 7 (B1 7 flooded)) ≡ 0 ∷ 0 ∷ 0 ∷ 24 ∷ 1000 ∷ 1000 ∷ []
  pub seasonal : year_by_year (pos 0) 6 6 (B10 7 flooded) ≡ neg_ℤ (pos 718) ∷ neg_ℤ (pos 425) ∷ neg_ℤ (pos 184) ∷ pos 378 ∷ pos 665 ∷ pos 1101 ∷ []
  -- were no value replaced, the flood would colour all of them
  pub unreplaced : year_by_year (pos 0) 6 6 (S2 plain_monthly (B1 7 flooded))
      ≡ neg_ℤ (pos 133362) ∷ neg_ℤ (pos 117774) ∷ neg_ℤ (pos 99436) ∷ neg_ℤ (pos 61201) ∷ neg_ℤ (pos 30695) ∷ neg_ℤ (pos 2958) ∷ []

-- METHOD 4.5 and 4.6: 72 figures from start month 7, each 1,000, twelve times t and the remainder of 2 t² + 13 t by 49
unfoldable pub rippled : List ℤ
rippled = tab 72 (λ t. pos (1000 + 12 * t + (2 * t * t + 13 * t) % 49))

-- METHOD 4.5 and 4.6: pass D takes 3×9, by the second question, and the final trend has 9 terms. What the Januaries get in D12, which follows both
-- choices
pub record ChosenByPassC : Type 0 where
  pub trend : year_by_year (pos 0) 6 6 (D12 7 rippled) ≡ map pos (1_096_732 ∷ 1_237_598 ∷ 1_375_082 ∷ 1_530_792 ∷ 1_678_021 ∷ 1_819_587 ∷ [])

-- METHOD 4.1, 4.2 and 5.1 (the numbers stand in 4.6): every figure of this series ten times as large. What the last two Februaries get in B17 and C17, t =
-- 55 and 67: B13 and C13 are weighed from start month 7. (By the years from month 1 they would get other weights; METHOD has them.)
pub record WeighedFromJuly : Type 0 where
  pub b17 : year_by_year 0 55 2 (B17 7 (times 10 rippled)) ≡ 512 ∷ 750 ∷ []
  pub c17 : year_by_year 0 55 2 (C17 7 (times 10 rippled)) ≡ 37 ∷ 402 ∷ []

-- The examples of METHOD 3.9, worked by the definitions (shown in proofs/Examples.antt).
use Rattle.std.specs.Prelude.{◌≡◌, cond, List, [], ◌∷◌, ℕ, ◌*◌, ◌/◌, ◌%◌, eqb, length, get_or, ℤ, pos, neg_ℤ}
use Rattle.integers.specs.Lists.{◌‼◌, tab}
use Rattle.refusals.specs.Limits.{months_of_year, full_weight}
use Rattle.replacing.specs.Neighbours.{neighbours}
use Rattle.replacing.specs.Replaced.{replaced_by}

-- whole years whose Januaries are given, year 0 first, with d in all other months; and the place of a year's January
unfoldable pub januaries : {A : Type 0} → A → List A → List A
januaries d run = tab (months_of_year * length run) (λ t. cond (eqb (t % months_of_year) 0) (get_or run (t / months_of_year) d) d)

abbrev pub january : ℕ → ℕ
january y = months_of_year * y

-- of a run with these weights, the neighbours of the value in year y
unfoldable pub neighbours_in : ℕ → List ℕ → List ℕ
neighbours_in y weights = neighbours months_of_year (januaries full_weight weights) (january y)

-- of Januaries 100, 200, -50,000, 300 and 401 with these weights, the third, replaced
unfoldable pub third_replaced : List ℕ → ℤ
third_replaced weights =
    let x = januaries (pos 0) (pos 100 ∷ pos 200 ∷ neg_ℤ (pos 50_000) ∷ pos 300 ∷ pos 401 ∷ []) in
    replaced_by months_of_year (januaries full_weight weights) x ‼ january 2

pub record WorkedExamples : Type 0 where
  -- METHOD 3.9, the table: two on each side; the three nearest, all later ones; of two that are equally near the earlier; all there are
  pub two_on_each_side : neighbours_in 2 (1000 ∷ 1000 ∷ 0 ∷ 999 ∷ 1000 ∷ 1000 ∷ 1000 ∷ []) ≡ january 1 ∷ january 0 ∷ january 4 ∷ january 5 ∷ []
  pub three_nearest : neighbours_in 0 (0 ∷ 1000 ∷ 500 ∷ 1000 ∷ 1000 ∷ 1000 ∷ []) ≡ january 1 ∷ january 3 ∷ january 4 ∷ []
  pub equally_near : neighbours_in 3 (1000 ∷ 0 ∷ 0 ∷ 0 ∷ 1000 ∷ 1000 ∷ 1000 ∷ []) ≡ january 4 ∷ january 5 ∷ january 0 ∷ []
  pub all_there_are : neighbours_in 5 (0 ∷ 0 ∷ 0 ∷ 0 ∷ 1000 ∷ 0 ∷ []) ≡ january 4 ∷ []
  -- METHOD 3.9: a value of weight 0, one of weight 500, one of weight 999, which is still replaced, and one of weight 1,000, which stays; one whose mean,
  -- 250.5, lies on a half; and two without neighbours
  pub weight_0 : third_replaced (1000 ∷ 1000 ∷ 0 ∷ 1000 ∷ 1000 ∷ []) ≡ pos 250
  pub weight_500 : third_replaced (1000 ∷ 1000 ∷ 500 ∷ 1000 ∷ 1000 ∷ []) ≡ neg_ℤ (pos 5333)
  pub weight_999 : third_replaced (1000 ∷ 1000 ∷ 999 ∷ 1000 ∷ 1000 ∷ []) ≡ neg_ℤ (pos 9792)
  pub weight_1000 : third_replaced (1000 ∷ 1000 ∷ 1000 ∷ 1000 ∷ 1000 ∷ []) ≡ neg_ℤ (pos 50_000)
  pub on_a_half : third_replaced (1000 ∷ 999 ∷ 0 ∷ 999 ∷ 1000 ∷ []) ≡ pos 250
  pub no_neighbours : third_replaced (999 ∷ 999 ∷ 0 ∷ 999 ∷ 999 ∷ []) ≡ neg_ℤ (pos 50_000)
  pub none_at_500 : third_replaced (999 ∷ 999 ∷ 500 ∷ 999 ∷ 999 ∷ []) ≡ neg_ℤ (pos 50_000)

-- Where Henderson's rows come from, in whole numbers: the closed formula of METHOD 2.5 for the exact weights, Musgrave's of METHOD 2.6 for the ends.
use Rattle.std.specs.Prelude.{◌≡◌, cond, List, [], ◌∷◌, map, ℕ, ◌+◌, ◌*◌, ◌-◌, ◌/◌, ◌%◌, ltb, eqb, get_or, ℤ, pos, ◌+ℤ◌, ◌-ℤ◌, ◌*ℤ◌}
use Rattle.integers.specs.Lists.{tab}
use Rattle.integers.specs.Rounding.{away_from_zero}
use Rattle.integers.specs.Sums.{sum_z}
use Rattle.series.specs.Operations.{times}
use Rattle.rows.specs.declared.Terms.{Terms}
use Rattle.rows.specs.declared.Terms.TheVariants.{Nine, Thirteen, TwentyThree}
use Rattle.rows.specs.Table.{Table, denominator, middle_weights}
use Rattle.rows.specs.FilterTables.{table_henderson, over_henderson}

-- ---- METHOD 2.5, the closed formula, m being two more than the terms of one side. The weight i places from the middle one is closed_numerator m i over
-- closed_denominator m. (One source prints (m - 1)² for the factor m² - 1 of the denominator)
unfoldable pub closed_denominator : ℕ → ℕ
closed_denominator m = 8 * m * (m * m - 1) * (4 * m * m - 1) * (4 * m * m - 9) * (4 * m * m - 25)

unfoldable pub closed_numerator : ℕ → ℕ → ℤ
closed_numerator m i =
    pos (315 * ((m - 1) * (m - 1) - i * i) * (m * m - i * i) * ((m + 1) * (m + 1) - i * i)) *ℤ (pos (3 * m * m) -ℤ pos (16 + 11 * i * i))

-- with p terms on one side: the numerator of weight j of 2p + 1, oldest first, p - j or j - p places from the middle one
unfoldable pub exact_numerator : ℕ → ℕ → ℤ
exact_numerator p j = closed_numerator (p + 2) ((p - j) + (j - p))

-- ---- METHOD 2.6, Musgrave's weights for M values, from the 2p + 1 exact weights over W, with D = d / 10,000.
-- Places count from 0, so that the formula's j is j + 1 here and its j - (M + 1) / 2 is half of `offset j`
module _ (p d M : ℕ) where
  abbrev W : ℕ
  W = closed_denominator (p + 2)

  abbrev offset : ℕ → ℤ
  offset j = pos (2 * j + 1) -ℤ pos M

  -- over the weights that find no value: their sum, over W, is the formula's a; the sum of offset times weight, over 2 W, is its c
  abbrev missing : ℤ
  missing = sum_z (2 * p + 1 - M) (λ i. exact_numerator p (M + i))

  abbrev tilt : ℤ
  tilt = sum_z (2 * p + 1 - M) (λ i. offset (M + i) *ℤ exact_numerator p (M + i))

  -- D / (1 + (M (M - 1) (M + 1) / 12) D) is 12 d over this
  abbrev divisor : ℕ
  divisor = 12 * 10_000 + M * (M - 1) * (M + 1) * d

  -- exact weight j + missing / M + offset j * 3 d * tilt / divisor, all over W: as a whole number over W M divisor. Where all 2p + 1 values are
  -- there, M being 2p + 1, nothing is missing and this is the exact weight
  abbrev musgrave_numerator : ℕ → ℤ
  musgrave_numerator j = pos (M * divisor) *ℤ exact_numerator p j +ℤ pos divisor *ℤ missing +ℤ pos (3 * M * d) *ℤ (offset j *ℤ tilt)

  -- put over a denominator and rounded (METHOD 1.4)
  abbrev nearest : ℕ → ℕ → ℤ
  nearest over j = away_from_zero (pos over *ℤ musgrave_numerator j) (W * M * divisor)

  -- the weight that is stored; that of the present month, p places from the oldest, is that denominator less all the others
  unfoldable pub rounded_weight : ℕ → ℕ → ℤ
  rounded_weight over j = cond (eqb j p) (pos over -ℤ sum_z M (λ i. cond (eqb i p) (pos 0) (nearest over i))) (nearest over j)

-- ---- the whole table F. Weight k of row r: the middle row has all values, in its own denominator; rows after it have fewer values after the present
-- one; rows before it are those, read backwards
unfoldable pub weight_by_rule : ℕ → Table → ℕ → ℕ → ℤ
weight_by_rule d F r k =
    let p = F.side in
    let over = denominator F r in
    cond (ltb r p) (cond (ltb (p + r) k) (pos 0) (rounded_weight p d (p + 1 + r) over (p + r - k)))
    (cond (ltb (3 * p - r) k) (pos 0) (rounded_weight p d (3 * p + 1 - r) over k))

unfoldable pub rows_by_rule : ℕ → Table → List ℤ
rows_by_rule d F = tab (F.width * F.width) (λ i. weight_by_rule d F (i / F.width) (i % F.width))

-- METHOD 2.6: Musgrave's D for so many terms, in ten-thousandths
abbrev pub musgrave_d : Terms → ℕ
musgrave_d Nine = 12_732
musgrave_d Thirteen = 1_039
musgrave_d TwentyThree = 629

-- ---- the stored rows (shown in proofs/Rules.antt)
-- METHOD 2.5: the lengths there are, and where each stands in the list
abbrev pub henderson_lengths : List Terms
henderson_lengths = Nine ∷ Thirteen ∷ TwentyThree ∷ []

abbrev pub index_of : Terms → ℕ
index_of Nine = 0
index_of Thirteen = 1
index_of TwentyThree = 2

-- those whose middle row is stored without rounding
abbrev pub exact_lengths : List Terms
exact_lengths = Nine ∷ Thirteen ∷ []

pub record HendersonRule : Type 0 where
  -- every length stands in the list
  pub complete : (terms : Terms) → get_or henderson_lengths (index_of terms) Nine ≡ terms
  -- METHOD 2.7: the stored rows of all lengths follow from the closed formula and Musgrave's rule, shown for whole tables at once
  pub musgrave : map (λ terms. (table_henderson terms).rows) henderson_lengths ≡ map (λ terms. rows_by_rule (musgrave_d terms) (table_henderson terms)) henderson_lengths
  -- METHOD 2.7: the middle rows of 9 and 13 terms are the closed formula, nothing being rounded
  pub closed_formula : map (λ terms. let F = table_henderson terms in times (closed_denominator (F.side + 2)) (middle_weights F)) exact_lengths
      ≡ map (λ terms. let F = table_henderson terms in times F.middle (tab F.width (exact_numerator F.side))) exact_lengths
  -- METHOD 6.1: the denominator of the exact working is a multiple of those of the rows
  pub multiple : map (λ terms. let F = table_henderson terms in over_henderson % F.middle + over_henderson % F.ends) henderson_lengths
      ≡ map (λ terms. 0) henderson_lengths

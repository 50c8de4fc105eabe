-- METHOD 2.7: what the stored rows obey, whole tables at a time (shown in proofs/Rules.antt).
use Rattle.std.specs.Prelude.{◌≡◌, cond, List, [], ◌∷◌, ◌++◌, map, ℕ, ◌+◌, ◌*◌, ◌-◌, ◌/◌, ◌%◌, eqb, get_or, ℤ, pos, nat_abs, ◌+ℤ◌, ◌*ℤ◌}
use Rattle.integers.specs.Lists.{tab}
use Rattle.integers.specs.Sums.{sum_z}
use Rattle.rows.specs.declared.SeasonalFilter.{SeasonalFilter}
use Rattle.rows.specs.declared.SeasonalFilter.TheVariants.{ThreeByThree, ThreeByFive, ThreeByNine}
use Rattle.rows.specs.Table.{Table, row_for, middle_row, row_weight, denominator, middle_weights}
use Rattle.rows.specs.FilterTables.{table2x12, table_seasonal, over_seasonal, table_henderson}
use Rattle.rows.specs.Henderson.{henderson_lengths}

-- the row for b values before the present one and a after it
module _ (F : Table) (b a : ℕ) where
  -- weight k of it, and all that it takes
  abbrev pub weight_at : ℕ → ℤ
  weight_at k = row_weight F (row_for F b a) k

  abbrev pub weights : List ℤ
  weights = tab (b + 1 + a) weight_at

  -- its sum, and its denominator
  abbrev pub sum : ℤ
  sum = sum_z (b + 1 + a) weight_at

  abbrev pub over : ℤ
  over = pos (denominator F (row_for F b a))

  -- METHOD 2.1: the row for the other side, read backwards
  abbrev pub mirrored : List ℤ
  mirrored = tab (b + 1 + a) (λ k. row_weight F (row_for F a b) (b + a - k))

  -- METHOD 2.8: the weights of the full row, and those of them that find no value, before and after, summed
  abbrev full : ℕ → ℤ
  full = row_weight F (middle_row F)

  abbrev missing : ℤ
  missing = sum_z (F.side - b) full +ℤ sum_z (F.side - a) (λ j. full (F.side + 1 + a + j))

  -- METHOD 2.8, p being the values present: each weight is that of the full row times p, and the missing ones, over p times the denominator of the full
  -- row. Both fractions, the stored one and that of the rule, times both denominators
  abbrev p : ℕ
  p = b + 1 + a

  abbrev pub stored : List ℤ
  stored = tab p (λ k. pos (F.middle * p) *ℤ weight_at k)

  abbrev pub shared : List ℤ
  shared = tab p (λ k. over *ℤ (pos p *ℤ full (F.side - b + k) +ℤ missing))

-- what f gives for the values before and after every place that the rows serve: with one row for each pair of counts, for all pairs, those too that
-- serve no place; else for the places that are short on one side at most
abbrev pub every_pair : {A : Type 0} → Table → (ℕ → ℕ → A) → List A
every_pair F f =
    let m = F.side + 1 in
    cond (eqb F.row_step 1)
    (tab m (λ b. f b F.side) ++ tab m (λ a. f F.side a))
    (tab (m * m) (λ i. f (i / m) (i % m)))

-- every seasonal filter, and where it stands in that list; their tables; with Henderson's, the filters that serve the ends too
abbrev pub seasonal_filters : List SeasonalFilter
seasonal_filters = ThreeByThree ∷ ThreeByFive ∷ ThreeByNine ∷ []

abbrev pub filter_index : SeasonalFilter → ℕ
filter_index ThreeByThree = 0
filter_index ThreeByFive = 1
filter_index ThreeByNine = 2

abbrev pub seasonals : List Table
seasonals = map table_seasonal seasonal_filters

abbrev pub with_ends : List Table
with_ends = seasonals ++ map table_henderson henderson_lengths

-- weights without their signs
abbrev pub sizes : Table → List ℤ
sizes F = map (λ w. pos (nat_abs w)) F.rows

pub record RowRules : Type 0 where
  -- every seasonal filter stands in the list
  pub complete : (f : SeasonalFilter) → get_or seasonal_filters (filter_index f) ThreeByThree ≡ f
  -- METHOD 2.1: each row sums to its denominator; 2×12 has its middle row alone
  pub row_sums : map (λ F. every_pair F (sum F)) with_ends ≡ map (λ F. every_pair F (over F)) with_ends
  pub row_sum_2x12 : sum table2x12 6 6 ≡ over table2x12 6 6
  -- METHOD 2.1: the rows for the start are those for the end, read backwards
  pub mirrors : map (λ F. every_pair F (weights F)) with_ends ≡ map (λ F. every_pair F (mirrored F)) with_ends
  -- METHOD 2.2 to 2.4 and 2.8: no weight of 2×12 and of the seasonal filters is negative, so that these are means
  pub not_negative : map sizes (table2x12 ∷ seasonals) ≡ map (λ F. F.rows) (table2x12 ∷ seasonals)
  -- METHOD 2.8: the full row of 3×9; every row follows from it, the missing weights being shared equally
  pub full3x9 : middle_weights (table_seasonal ThreeByNine) ≡ map pos (1 ∷ 2 ∷ 3 ∷ 3 ∷ 3 ∷ 3 ∷ 3 ∷ 3 ∷ 3 ∷ 2 ∷ 1 ∷ [])
  pub shared3x9 : every_pair (table_seasonal ThreeByNine) (stored (table_seasonal ThreeByNine)) ≡ every_pair (table_seasonal ThreeByNine) (shared (table_seasonal ThreeByNine))
  -- METHOD 6.1: the denominator of the exact working is a multiple of those of the rows
  pub multiple : map (λ F. over_seasonal % F.middle + over_seasonal % F.ends) seasonals ≡ map (λ _. 0) seasonals

-- The stored tables obey their rules, each as a whole and by computation.
use mathlib.Core.Path.{◌≡◌, refl}
use lib.ListN.{get_or}
use Rattle.integers.specs.Lists.{tab_from, tab}
use Rattle.integers.specs.Rounding.{half_up, away_from_zero}
use Rattle.integers.specs.Sums.{sum_z, sum_n}
use Rattle.series.specs.Operations.{times}
use Rattle.rows.specs.Table.{row_for, middle_row, row_count, row_weight, denominator}
use Rattle.rows.specs.FilterTables.{table2x12, table_seasonal, over_seasonal, table_henderson, over_henderson}
use Rattle.rows.specs.declared.SeasonalFilter.{SeasonalFilter}
use Rattle.rows.specs.declared.SeasonalFilter.TheVariants.{ThreeByThree, ThreeByFive, ThreeByNine}
use Rattle.rows.specs.declared.Terms.{Terms}
use Rattle.rows.specs.declared.Terms.TheVariants.{Nine, Thirteen, TwentyThree}
use Rattle.rows.specs.Henderson.{henderson_lengths, index_of, closed_denominator, closed_numerator, exact_numerator, rounded_weight, weight_by_rule, rows_by_rule, HendersonRule}
use Rattle.rows.specs.RowRules.{seasonal_filters, filter_index, RowRules}
use Rattle.rows.proofs.RowTests.{AllFair}
use Rattle.rows.proofs.Means.{AllMeans}

stands : (m : Terms) → get_or henderson_lengths (index_of m) Nine ≡ m
stands Nine = refl
stands Thirteen = refl
stands TwentyThree = refl

-- Henderson's rows of every length: Musgrave's rule, and the closed formula
pub henderson-rule : HendersonRule
unfolding closed_denominator closed_numerator exact_numerator rows_by_rule weight_by_rule rounded_weight row_weight middle_row denominator table_henderson tab tab_from times sum_z away_from_zero half_up
henderson-rule = record { complete = stands; musgrave = refl; closed_formula = refl; multiple = refl }

-- every seasonal filter is in the list
listed : (f : SeasonalFilter) → get_or seasonal_filters (filter_index f) ThreeByThree ≡ f
listed ThreeByThree = refl
listed ThreeByFive = refl
listed ThreeByNine = refl

-- the sums; the rows for the start mirror those for the end; no weight of a mean is negative; those of 3×9 follow from its full row
pub row-rules : RowRules
unfolding tab tab_from sum_z row_for middle_row row_count row_weight denominator table2x12 table_seasonal table_henderson
row-rules = record { complete = listed; row_sums = refl; row_sum_2x12 = refl; mirrors = refl; not_negative = refl; full3x9 = refl; shared3x9 = refl; multiple = refl }

-- every row of 2×12 and of the seasonal filters has non-negative weights that sum to one, and a denominator that divides 24 or 748,440
pub means2x12 : AllMeans 24 table2x12
unfolding table2x12 middle_row row_count row_weight denominator sum_z
means2x12 = tt

pub means_seasonal : (f : SeasonalFilter) → AllMeans over_seasonal (table_seasonal f)
unfolding table_seasonal middle_row row_count row_weight denominator sum_z
means_seasonal ThreeByThree = tt
means_seasonal ThreeByFive = tt
means_seasonal ThreeByNine = tt

-- the sizes of the weights of Henderson's rows sum to at most 1.44, of 13 terms to at most 1.3; 46,189,000,000 is a common multiple of 2,431, 16,796
-- and 1,000,000
pub fair_henderson : (m : Terms) → AllFair over_henderson 1440 (table_henderson m)
unfolding table_henderson middle_row row_count row_weight denominator sum_n
fair_henderson Nine = tt
fair_henderson Thirteen = tt
fair_henderson TwentyThree = tt

pub fair_thirteen : AllFair over_henderson 1300 (table_henderson Thirteen)
unfolding table_henderson middle_row row_count row_weight denominator sum_n
fair_thirteen = tt

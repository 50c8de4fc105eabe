-- METHOD 4.4 to 4.6, the flooded January, a final trend by both choices and weights by years that begin in July, by computation.
use mathlib.Core.Path.{refl}
use Rattle.integers.specs.Lists.{tab_from, tab}
use Rattle.integers.specs.Root.{or_one_more, root_in, root}
use Rattle.integers.specs.Rounding.{half_up, away_from_zero, half_to_even, to_grain}
use Rattle.integers.specs.Sums.{sum_z, sum_n}
use Rattle.series.specs.Operations.{minus, times, pick, changes}
use Rattle.rows.specs.Table.{row_for, middle_row, row_weight, denominator}
use Rattle.rows.specs.FilterTables.{table2x12, table_seasonal, table_henderson}
use Rattle.filters.specs.Filter as filters
use Rattle.replacing.specs.Neighbours as neighbours
use Rattle.replacing.specs.Replaced.{sum_at, is_replaced, counted_sum, counted, replaced_at, replaced_by}
use Rattle.trend_length.specs.TrendLength.{month_changes, terms_for, trend_length}
use Rattle.seasonal_choice.specs.SeasonalChoice.{year_changes, decide, year_off, ask, chosen_filter}
use Rattle.steps.specs.Places.{inner, nearest_level, copied, widened}
use Rattle.steps.specs.Steps.{level, T1, SI1, R1, M1, inner_s1, S1, A1, T2, SI2, R2, M2, S2}
use Rattle.extremes.specs.Years.{months, centre, year_of, month_of, years, year_start, group_around, group}
use Rattle.extremes.specs.Spreads.{size_of, sizes_of, squares, spread, keep, limit_of, remaining, second_spread}
use Rattle.extremes.specs.Weighing.{weight, weight_by, month_weight, weights_by, weights_of, correction_of}
use Rattle.tables.specs.PassB.{irregular_b4, weights_b4, irregular_b9, weights_b9}
use Rattle.tables.specs.Tables.{irregular_of, corrections, B1, B7, B10, B13, B17, B20, C1, C7, C10, C13, C17, C20, D1, final_seasonal_filter, D10, final_terms, D12}
use Rattle.tables.specs.Examples.{flooded, FloodedJanuary, rippled, ChosenByPassC, WeighedFromJuly}

pub examples : FloodedJanuary × ChosenByPassC × WeighedFromJuly
unfolding tab_from tab or_one_more root_in root half_up away_from_zero half_to_even to_grain sum_z sum_n changes month_changes terms_for trend_length year_changes decide year_off ask chosen_filter minus times pick row_for middle_row row_weight denominator table2x12 table_seasonal table_henderson
    filters.dot filters.weighted_sum filters.by_row filters.earlier filters.later filters.value_at filters.filter filters.reach filters.inside
    neighbours.of_full_weight neighbours.nearest neighbours.run_before neighbours.run_after neighbours.full_before neighbours.full_after neighbours.neighbours
    sum_at is_replaced counted_sum counted replaced_at replaced_by inner nearest_level copied widened level T1 SI1 R1 M1 inner_s1 S1 A1 T2 SI2 R2 M2 S2
    months centre year_of month_of years year_start group_around group size_of sizes_of squares spread keep limit_of remaining second_spread
    weight weight_by month_weight weights_by weights_of correction_of irregular_b4 weights_b4 irregular_b9 weights_b9 irregular_of corrections
    B1 B7 B10 B13 B17 B20 C1 C7 C10 C13 C17 C20 D1 final_seasonal_filter D10 final_terms D12 flooded rippled
examples = (
  record { weights_si1 = refl; weights_si2 = refl; seasonal = refl; unreplaced = refl },
  record { trend = refl },
  record { b17 = refl; c17 = refl },
)

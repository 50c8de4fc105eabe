-- The pencil cases, all at once and by computation.
use mathlib.Core.Path.{refl}
use Rattle.integers.specs.Lists.{tab_from, tab}
use Rattle.integers.specs.Root.{or_one_more, root_in, root}
use Rattle.integers.specs.Rounding.{half_up, away_from_zero, half_to_even, to_grain}
use Rattle.integers.specs.Sums.{sum_z, sum_n}
use Rattle.series.specs.Operations.{changes}
use Rattle.rows.specs.Table.{row_for, middle_row, row_weight, denominator}
use Rattle.filters.specs.Filter.{dot, weighted_sum, by_row, earlier, later, value_at, filter, reach, inside}
use Rattle.rows.specs.FilterTables.{table2x12, table_seasonal, table_henderson}
use Rattle.trend_length.specs.TrendLength.{month_changes, terms_for}
use Rattle.seasonal_choice.specs.SeasonalChoice.{year_changes, decide, year_off, ask, chosen_filter}
use Rattle.extremes.specs.Spreads.{size_of, squares, spread, keep, limit_of, remaining, second_spread}
use Rattle.extremes.specs.Weighing.{weight, correction_of}
use Rattle.pencil.specs.Pencil.{pencil, PencilHolds}

pub pencil-holds : PencilHolds
unfolding pencil tab_from tab or_one_more root_in root half_up away_from_zero half_to_even to_grain sum_z sum_n changes month_changes terms_for year_changes decide year_off ask chosen_filter row_for middle_row row_weight denominator dot weighted_sum by_row earlier later value_at filter
    reach inside table2x12 table_seasonal table_henderson size_of squares spread keep limit_of remaining second_spread weight correction_of
pencil-holds = refl

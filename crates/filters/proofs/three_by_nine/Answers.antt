-- `filters::three_by_nine` meets its contract: month by month where the months are too few for rows in turn, else by those.
use Rattle.integers.specs.Sums.{sum_n}
use Rattle.rows.specs.Table.{middle_row, row_count, row_weight, denominator}
use Rattle.rows.specs.FilterTables.{table_seasonal, over_seasonal}
use Rattle.filters.proofs.Stored.{readable}
use Rattle.filters.proofs.three_by_nine.Goals as goal

pub invariant_of-fill_short : goal.invariant_of-fill_short
unfolding middle_row row_count row_weight denominator sum_n
invariant_of-fill_short c = record { readable = readable _ over_seasonal tt }

pub invariant_of-fill_months : goal.invariant_of-fill_months
unfolding middle_row row_count row_weight denominator sum_n
invariant_of-fill_months c = record { readable = readable _ over_seasonal tt }

pub returns-then-past-first-lt120 : goal.returns-then-past-first-lt120
unfolding table_seasonal
returns-then-past-first-lt120 c = c.fill_short.ensures

pub returns-else-past-first-lt120 : goal.returns-else-past-first-lt120
unfolding table_seasonal
returns-else-past-first-lt120 c = c.fill_months.ensures

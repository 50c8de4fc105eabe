-- `filters::three_by_five` meets its contract: the months by the stored rows of 3×5.
use Rattle.integers.specs.Sums.{sum_n}
use Rattle.rows.specs.Table.{middle_row, row_count, row_weight, denominator}
use Rattle.rows.specs.FilterTables.{table_seasonal}
use Rattle.filters.proofs.Stored.{readable}
use Rattle.filters.proofs.three_by_five.Goals as goal

pub invariant_of-fill_months : goal.invariant_of-fill_months
unfolding middle_row row_count row_weight denominator sum_n
invariant_of-fill_months c = record { readable = readable _ 60 tt }

pub returns : goal.returns
unfolding table_seasonal
returns c = c.fill_months.ensures

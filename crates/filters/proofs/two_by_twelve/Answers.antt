-- `filters::two_by_twelve` meets its contract: the months with six values on each side by the stored row of 2×12.
use Rattle.integers.specs.Sums.{sum_n}
use Rattle.rows.specs.Table.{middle_row, row_count, row_weight, denominator}
use Rattle.rows.specs.FilterTables.{table2x12}
use Rattle.filters.proofs.Stored.{readable}
use Rattle.filters.proofs.two_by_twelve.Goals as goal

pub invariant_of-fill_inside : goal.invariant_of-fill_inside
unfolding middle_row row_count row_weight denominator sum_n
invariant_of-fill_inside c = record { readable = readable _ 24 tt }

pub returns : goal.returns
unfolding table2x12
returns c = c.fill_inside.ensures

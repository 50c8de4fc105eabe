-- `filters::henderson` meets its contract: each arm fills all months by the stored rows of its length.
use mathlib.Core.Path.{refl}
use Rattle.integers.specs.Sums.{sum_n}
use Rattle.rows.specs.Table.{middle_row, row_count, row_weight, denominator}
use Rattle.integers.proofs.FillingLaws.{filled-tab}
use Rattle.rows.specs.FilterTables.{table_henderson, over_henderson}
use Rattle.filters.specs.Filter.{filter}
use Rattle.filters.proofs.Stored.{readable}
use Rattle.filters.proofs.henderson.Goals as goal

pub invariant_of-fill_months : goal.invariant_of-fill_months
unfolding middle_row row_count row_weight denominator sum_n
invariant_of-fill_months c = record { readable = readable _ over_henderson tt }

pub invariant_of-fill_months-in-Thirteen : goal.invariant_of-fill_months-in-Thirteen
unfolding middle_row row_count row_weight denominator sum_n
invariant_of-fill_months-in-Thirteen c = record { readable = readable _ over_henderson tt }

pub invariant_of-fill_months-in-TwentyThree : goal.invariant_of-fill_months-in-TwentyThree
unfolding middle_row row_count row_weight denominator sum_n
invariant_of-fill_months-in-TwentyThree c = record { readable = readable _ over_henderson tt }

pub returns-in-Nine : goal.returns-in-Nine
unfolding table_henderson filter
returns-in-Nine c = rw c.in-Nine.is (filled-tab c.fill_months.ensures refl c.requires.2)

pub returns-in-Thirteen : goal.returns-in-Thirteen
unfolding table_henderson filter
returns-in-Thirteen c = rw c.in-Thirteen.is (filled-tab c.fill_months-in-Thirteen.ensures refl c.requires.2)

pub returns-in-TwentyThree : goal.returns-in-TwentyThree
unfolding table_henderson filter
returns-in-TwentyThree c = rw c.in-TwentyThree.is (filled-tab c.fill_months-in-TwentyThree.ensures refl c.requires.2)

-- METHOD 2.2 to 2.6 and 2.8: the filters, each a table of rows.
use Rattle.std.specs.Prelude.{ℕ}
use Rattle.rows.specs.declared.SeasonalFilter.{SeasonalFilter}
use Rattle.rows.specs.declared.SeasonalFilter.TheVariants.{ThreeByThree, ThreeByFive, ThreeByNine}
use Rattle.rows.specs.declared.Terms.{Terms}
use Rattle.rows.specs.declared.Terms.TheVariants.{Nine, Thirteen, TwentyThree}
use Rattle.rows.specs.Table.{Table}
use Rattle.rows.specs.MeanRows.{row2x12, rows3x3, rows3x5, rows3x9}
use Rattle.rows.specs.HendersonRows.{rows_henderson9, rows_henderson13, rows_henderson23}

-- METHOD 2.2: 2×12 has a value only where six places stand on each side, so that its one row serves them all
unfoldable pub table2x12 : Table
table2x12 = record { side = 6; row_step = 1; step = 1; width = 0; rows = row2x12; middle = 24; ends = 24 }

-- METHOD 2.8 and 6.1: the least common multiple of 27 and 60 and of 27p for 1 to 11 values, for the exact working of every seasonal filter; the rows of
-- 3×9 for the ends are stored over it
abbrev pub over_seasonal : ℕ
over_seasonal = 748_440

-- METHOD 2.3, 2.4 and 2.8: the seasonal filters, along a month's run. 3×9 has a row for each pair of counts
unfoldable pub table_seasonal : SeasonalFilter → Table
table_seasonal ThreeByThree = record { side = 2; row_step = 1; step = 12; width = 5; rows = rows3x3; middle = 27; ends = 27 }
table_seasonal ThreeByFive = record { side = 3; row_step = 1; step = 12; width = 7; rows = rows3x5; middle = 60; ends = 60 }
table_seasonal ThreeByNine = record { side = 5; row_step = 6; step = 12; width = 11; rows = rows3x9; middle = 27; ends = over_seasonal }

-- METHOD 2.5 and 2.6: Henderson's filter of so many terms, with Musgrave's ends
unfoldable pub table_henderson : Terms → Table
table_henderson Nine = record { side = 4; row_step = 1; step = 1; width = 9; rows = rows_henderson9; middle = 2_431; ends = 1_000_000 }
table_henderson Thirteen = record { side = 6; row_step = 1; step = 1; width = 13; rows = rows_henderson13; middle = 16_796; ends = 1_000_000 }
table_henderson TwentyThree = record { side = 11; row_step = 1; step = 1; width = 23; rows = rows_henderson23; middle = 1_000_000; ends = 1_000_000 }

-- METHOD 6.1: the least common multiple of the denominators of Henderson's rows, 2,431, 16,796 and 1,000,000, for the exact working of every length
abbrev pub over_henderson : ℕ
over_henderson = 46_189_000_000

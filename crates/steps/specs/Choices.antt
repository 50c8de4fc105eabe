-- What a pass chooses. METHOD 3 and 4.6 settle every choice; the steps and their exact working are stated for any, and take the same value, so that the exact
-- working holds what the rounded steps chose.
use Rattle.std.specs.Prelude.{List, ℕ, ◌*◌, ℤ}
use Rattle.replacing.specs.Replaced.{common, replaced_by, exact_replaced_by}
use Rattle.rows.specs.declared.SeasonalFilter.{SeasonalFilter}
use Rattle.rows.specs.declared.SeasonalFilter.TheVariants.{ThreeByThree, ThreeByFive}
use Rattle.rows.specs.declared.Terms.{Terms}
use Rattle.rows.specs.declared.Terms.TheVariants.{Thirteen}
use Rattle.rows.specs.Table.{Table}
use Rattle.rows.specs.FilterTables.{table2x12, table_seasonal, over_seasonal, table_henderson, over_henderson}

-- a moving average: its rows, and the denominator of its exact working, a multiple of those of the rows
pub record MovingAverage : Type 0 where
  pub table : Table
  pub over : ℕ

-- 2×12 (METHOD 2.2)
abbrev pub average2x12 : MovingAverage
average2x12 = record { table = table2x12; over = 24 }

-- a seasonal filter: 3×3, 3×5 or 3×9 (METHOD 2.3, 2.4, 2.8)
abbrev pub average_seasonal : SeasonalFilter → MovingAverage
average_seasonal f = record { table = table_seasonal f; over = over_seasonal }

-- Henderson's filter of so many terms, with its ends (METHOD 2.5, 2.6)
abbrev pub henderson : Terms → MovingAverage
henderson terms = record { table = table_henderson terms; over = over_henderson }

-- what is done to the values of SI1 or SI2 before they are filtered
pub data Replacing : Type 0 where
  -- METHOD 3.10: they are not replaced
  none : Replacing
  -- METHOD 3.8 and 3.9: those of a weight below 1,000 are replaced, by means of their neighbours; these are the weights
  by_weights : List ℕ → Replacing

-- h is half a year, in months
abbrev pub replaced : ℕ → Replacing → List ℤ → List ℤ
replaced h none si = si
replaced h (by_weights w) si = replaced_by (2 * h) w si

-- the same exactly, over `over_replaced` times the denominator of si
abbrev pub exact_replaced : ℕ → Replacing → List ℤ → List ℤ
exact_replaced h none si = si
exact_replaced h (by_weights w) si = exact_replaced_by (2 * h) w si

abbrev pub over_replaced : Replacing → ℕ
over_replaced none = 1
over_replaced (by_weights w) = common

-- the choices of a pass, in the order of its steps
pub record Choices : Type 0 where
  -- half a year, in months
  pub half_year : ℕ
  -- METHOD 3.1, 3.4 and 3.7: the average over a year, which takes half a year on each side
  pub yearly : MovingAverage
  -- METHOD 3.3: the seasonal filter of SI1
  pub seasonal1 : MovingAverage
  -- METHOD 3.5: the trend filter
  pub trend : MovingAverage
  -- METHOD 3.6: the seasonal filter of SI2
  pub seasonal2 : MovingAverage
  -- what is done to SI1 before step 3, and to SI2 before its filter in step 6
  pub replacing1 : Replacing
  pub replacing2 : Replacing

-- a pass over months: 2×12, 3×3 in step 3, Henderson's 13 terms in step 5; what is given is the filter of step 6 and what is replaced
abbrev pub monthly : SeasonalFilter → Replacing → Replacing → Choices
monthly f replacing1 replacing2 =
    record {
      half_year = 6;
      yearly = average2x12;
      seasonal1 = average_seasonal ThreeByThree;
      trend = henderson Thirteen;
      seasonal2 = average_seasonal f;
      replacing1 = replacing1;
      replacing2 = replacing2;
    }

-- METHOD 3.1 to 3.7 where no value of SI1 and SI2 is replaced (3.10), with the filter f in step 6: passes C and D
abbrev pub plain_by : SeasonalFilter → Choices
plain_by f = monthly f none none

-- the same with 3×5 in step 6: for what does not look at step 6, T1 to T2, so for the weighing of SI1 in pass B (3.8); and for pass B were no value
-- replaced (4.4)
abbrev pub plain_monthly : Choices
plain_monthly = plain_by ThreeByFive

-- What the laws of a filter ask of its rows: each row's denominator divides L, and the sizes of its weights sum to at most N thousandths of it.
use Prim.Native.Nat.{ℕ, ◌+◌, ◌*◌, ◌<◌, ◌≤◌}
use native.Mathlib.Nat.{le_trans, mul-le-mul_right}
use native.Mathlib.Omega.{arith}
use Rattle.integers.specs.Sums.{norm}
use Rattle.integers.proofs.SumLaws.{sum_n-upto}
use Rattle.rows.specs.Table.{Table, row_for, row_count, row_weight, denominator}
use Rattle.rows.specs.declared.SeasonalFilter.{SeasonalFilter}
use Rattle.rows.specs.declared.Terms.{Terms}
use Rattle.rows.specs.declared.Terms.TheVariants.{Thirteen}
use Rattle.rows.specs.FilterTables.{table2x12, table_seasonal, over_seasonal, table_henderson, over_henderson}
use Rattle.rows.proofs.RowTests.{all-at, fair, AllFair, Fair, fair-row}
use Rattle.rows.proofs.Means.{mean, AllMeans, mean-row}
use Rattle.rows.proofs.Rules.{means2x12, means_seasonal, fair_henderson, fair_thirteen}
use Rattle.filters.specs.Filter.{earlier, later}

-- no more values are counted than a row takes
pub few-earlier : (F : Table) (first t : ℕ) → earlier F first t ≤ F.side
unfolding earlier
few-earlier F first t = omega arith

pub few-later : (F : Table) (past t : ℕ) → later F past t ≤ F.side
unfolding later
few-later F past t = omega arith

-- the row for b values before and a after is one of the table's
row_in : (F : Table) (b a : ℕ) → b ≤ F.side → row_for F b a < row_count F
unfolding row_for row_count
row_in F b a l = omega (arith, mul-le-mul_right F.row_step l)

-- every row is so: what the laws of a filter ask
pub record Light (L N : ℕ) (F : Table) : Type 0 where
  pub at : (b a : ℕ) → b ≤ F.side → a ≤ F.side → Fair L N (denominator F (row_for F b a)) (norm (b + 1 + a) (row_weight F (row_for F b a)))

pub light_rows : (F : Table) (L N : ℕ) → ((r : ℕ) → r < row_count F → Fair L N (denominator F r) (norm (2 * F.side + 1) (row_weight F r))) → Light L N F
light_rows F L N h = record {
  at = λ b a i j. let f = h (row_for F b a) (row_in F b a i) in
      record { positive = f.positive; divides = f.divides; light = le_trans (mul-le-mul_right 1000 (sum_n-upto (b + 1 + a) (2 * F.side + 1) _ (omega arith))) f.light };
}

-- by the test of a norm, and by that of non-negative weights that sum to one
pub all_light : (F : Table) (L N : ℕ) → AllFair L N F → Light L N F
all_light F L N ok = light_rows F L N (λ r l. fair-row F L N r (all-at (row_count F) (fair L N F) ok r l))

pub all_means : (F : Table) (L : ℕ) → AllMeans L F → Light L 1000 F
all_means F L ok = light_rows F L 1000 (λ r l. mean-row F L r (all-at (row_count F) (mean L F) ok r l))

-- ---- the filters
pub light2x12 : Light 24 1000 table2x12
light2x12 = all_means table2x12 24 means2x12

pub light_seasonal : (f : SeasonalFilter) → Light over_seasonal 1000 (table_seasonal f)
light_seasonal f = all_means (table_seasonal f) over_seasonal (means_seasonal f)

pub light_henderson : (m : Terms) → Light over_henderson 1440 (table_henderson m)
light_henderson m = all_light (table_henderson m) over_henderson 1440 (fair_henderson m)

pub light_thirteen : Light over_henderson 1300 (table_henderson Thirteen)
light_thirteen = all_light (table_henderson Thirteen) over_henderson 1300 fair_thirteen

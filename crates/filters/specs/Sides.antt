-- METHOD 2.1, 2.3 to 2.6: no place of 3×3, of 3×5 or of Henderson's filters is short on both sides, so that each has the row that it asks for; places of
-- 3×9 may be (2.8), and each pair of counts has its own row there (shown in proofs/Sides.antt).
use Rattle.std.specs.Prelude.{◌≡◌, ℕ, ◌+◌, ◌*◌, ◌-◌, ◌≤◌, ◌<◌, max}
use Rattle.refusals.specs.Limits.{least_months}
use Rattle.rows.specs.declared.SeasonalFilter.TheVariants.{ThreeByThree, ThreeByFive}
use Rattle.rows.specs.declared.Terms.{Terms}
use Rattle.rows.specs.Table.{Table, row_for}
use Rattle.rows.specs.FilterTables.{table_seasonal, table_henderson}
use Rattle.filters.specs.Filter.{earlier, later, reach}

-- METHOD 2.3: of values at the months from `first` to below `past` each month has as many before it or after it as the full row takes on a side: the
-- larger of the two counts is `side`
pub record OneSideFull (F : Table) (first past : ℕ) : Type 0 where
  pub each : (t : ℕ) → first ≤ t → t < past → max (earlier F first t) (later F past t) ≡ F.side

-- METHOD 2.3, the law, for every table: it is so wherever there are 2 · side · step of these months or more
abbrev pub EnoughMonths : Type 0
EnoughMonths = (F : Table) (first past : ℕ) → 1 ≤ F.step → first + 2 * reach F ≤ past → OneSideFull F first past

-- METHOD 2.1: of a table whose rows go by one count (`row_step` 1) the row that such a place asks for is the row of its two counts and of no others
abbrev pub OwnRow : Type 0
OwnRow = (F : Table) (b a c d : ℕ) → F.row_step ≡ 1 → max b a ≡ F.side → max c d ≡ F.side → row_for F b a ≡ row_for F c d → (b ≡ c) × (a ≡ d)

-- METHOD 2.3 to 2.6, of a series of n months: 3×3 of SI1, which has the months from 6 to n - 7; 3×3 and 3×5 of SI2, which has all n; Henderson's
-- filters, of all n
pub record NoneShort (n : ℕ) : Type 0 where
  pub si1 : OneSideFull (table_seasonal ThreeByThree) 6 (n - 6)
  pub si2_by_3x3 : OneSideFull (table_seasonal ThreeByThree) 0 n
  pub si2_by_3x5 : OneSideFull (table_seasonal ThreeByFive) 0 n
  pub trend : (terms : Terms) → OneSideFull (table_henderson terms) 0 n

-- METHOD 1.1: from 72 months on
abbrev pub NoPlaceShort : Type 0
NoPlaceShort = (n : ℕ) → least_months ≤ n → NoneShort n

-- How near the tables are to their exact working: the results by the project's third promise (METHOD 6.4, 10.3), and each pass (METHOD 6.3).
use Rattle.std.specs.Prelude.{◌≡◌, List, ℕ, ℤ, ◌+ℤ◌}
use Rattle.integers.specs.Lists.{◌‼◌}
use Rattle.series.specs.Distance.{AtMostApart}
use Rattle.rows.specs.declared.SeasonalFilter.{SeasonalFilter}
use Rattle.rows.specs.declared.Terms.{Terms}
use Rattle.steps.specs.Steps.{T2}
use Rattle.steps.specs.Near.{Near}
use Rattle.tables.specs.PassB.{choices_b}
use Rattle.tables.specs.Tables.{choices_c, choices_d, B1, B7, B10, C1, C7, C10, D1, final_seasonal_filter, D10}
use Rattle.tables.specs.Exact.{over_e, E10, E11, E12, E13}

-- METHOD 6.3, of each pass on its X. In pass B the exact working replaces the same values by the same weights and neighbours, which stand in its
-- choices: B7 lies within 6 grains of the exact T2, and B10 within 13 of the exact S2. In passes C and D T2 (C7) lies within 4, S2 (C10, D10) within 10
pub record PassesNear (start : ℕ) (figures : List ℤ) : Type 0 where
  pub pass_b : Near (choices_b start (B1 start figures)) 6 13 (B1 start figures) (B7 start figures) (B10 start figures)
  pub pass_c : Near choices_c 4 10 (C1 start figures) (C7 start figures) (C10 start figures)
  pub pass_d : let c = choices_d (final_seasonal_filter start figures) in Near c 4 10 (D1 start figures) (T2 c (D1 start figures)) (D10 start figures)

-- METHOD 6.4 and 10.3, at month t, of the tables as the caller gets them: D10 from E10 and D11 from E11 at most 10 grains, D12 from E12 at most 15,
-- D13 from E13 at most 25, f being the seasonal filter of pass D and `terms` the length of D12's filter; and D10, D12 and D13 sum to B1
pub record NearAt (f : SeasonalFilter) (terms : Terms) (b1 d1 : List ℤ) (d10 d11 d12 d13 : List ℤ) (t : ℕ) : Type 0 where
  pub seasonal : AtMostApart 10 (over_e f) (d10 ‼ t) (E10 f d1 ‼ t)
  pub adjusted : AtMostApart 10 (over_e f) (d11 ‼ t) (E11 f b1 d1 ‼ t)
  pub trend : AtMostApart 15 (over_e f) (d12 ‼ t) (E12 f d1 terms ‼ t)
  pub irregular : AtMostApart 25 (over_e f) (d13 ‼ t) (E13 f b1 d1 terms ‼ t)
  pub adds_up : (d10 ‼ t) +ℤ (d12 ‼ t) +ℤ (d13 ‼ t) ≡ b1 ‼ t

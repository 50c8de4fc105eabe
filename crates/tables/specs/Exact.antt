-- METHOD 6.2: the exact working of the results, from B1, D1, the seasonal filter of pass D and the length of D12's filter alone, as whole numbers over
-- one denominator.
use Rattle.std.specs.Prelude.{◌≡◌, List, ℕ, ◌*◌, ℤ}
use Rattle.series.specs.Operations.{minus, times}
use Rattle.rows.specs.declared.SeasonalFilter.{SeasonalFilter}
use Rattle.rows.specs.declared.Terms.{Terms}
use Rattle.rows.specs.FilterTables.{table_henderson, over_henderson}
use Rattle.filters.specs.Filter.{exact}
use Rattle.steps.specs.Exact.{over_s2, exact_s2}
use Rattle.tables.specs.Tables.{choices_d}

-- f is the seasonal filter of pass D
module _ (f : SeasonalFilter) where
  -- the denominators of the exact S2 of pass D and of E10 to E13
  abbrev pub over_d10 : ℕ
  over_d10 = over_s2 (choices_d f)

  abbrev pub over_e : ℕ
  over_e = over_d10 * over_henderson

  -- METHOD 6.2: the exact S2 of D1, by that filter, over over_d10; E10, the exact seasonal, is the same over over_e
  abbrev pub exact_d10 : List ℤ → List ℤ
  exact_d10 d1 = exact_s2 (choices_d f) d1

  unfoldable pub E10 : List ℤ → List ℤ
  E10 d1 = times over_henderson (exact_d10 d1)

  -- METHOD 6.2: E11, the adjusted figure by it, is B1 less E10
  unfoldable pub E11 : List ℤ → List ℤ → List ℤ
  E11 b1 d1 = minus (times over_e b1) (E10 d1)

  -- METHOD 6.2: E12, the exact trend-cycle, is the exact Henderson of the difference D1 less E10, by the filter of the length of D12's, `terms`
  unfoldable pub E12 : List ℤ → Terms → List ℤ
  E12 d1 terms = exact (table_henderson terms) over_henderson (minus (times over_d10 d1) (exact_d10 d1))

  -- METHOD 6.2: E13, the exact irregular, is E11 less E12
  unfoldable pub E13 : List ℤ → List ℤ → Terms → List ℤ
  E13 b1 d1 terms = minus (E11 b1 d1) (E12 d1 terms)

-- METHOD 6.2: that denominator is one number, whichever filter pass D takes (shown in proofs/Nearness.antt)
pub record OneDenominator : Type 0 where
  pub same : (f g : SeasonalFilter) → over_e f ≡ over_e g

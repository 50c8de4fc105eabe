-- METHOD 4: every table of the three passes, from the start month and the figures; tables are in grains, B17 and C17 in thousandths.
use Rattle.std.specs.Prelude.{List, ℕ, length, get_or, ℤ}
use Rattle.integers.specs.Lists.{◌‼◌, tab}
use Rattle.refusals.specs.Limits.{unit, months_of_year}
use Rattle.series.specs.Operations.{minus, times}
use Rattle.filters.specs.Filter.{filter}
use Rattle.rows.specs.declared.SeasonalFilter.{SeasonalFilter}
use Rattle.rows.specs.declared.SeasonalFilter.TheVariants.{ThreeByFive}
use Rattle.rows.specs.declared.Terms.{Terms}
use Rattle.rows.specs.FilterTables.{table_henderson}
use Rattle.trend_length.specs.TrendLength.{trend_length}
use Rattle.seasonal_choice.specs.SeasonalChoice.{chosen_filter}
use Rattle.steps.specs.Choices.{Choices, plain_by}
use Rattle.steps.specs.Steps.{T2, S2}
use Rattle.extremes.specs.Weighing.{weights_of, correction_of}
use Rattle.tables.specs.PassB.{choices_b}

-- METHOD 3.6 and 3.10, what passes C and D choose (for pass B see PassB): they replace no value; step 6 has 3×5 in pass C, and in pass D a filter that
-- is chosen
abbrev pub choices_c : Choices
choices_c = plain_by ThreeByFive

abbrev pub choices_d : SeasonalFilter → Choices
choices_d f = plain_by f

-- METHOD 4.1 and 4.2: the irregular, what a seasonal and a trend leave of B1: B13 and C13
unfoldable pub irregular_of : List ℤ → List ℤ → List ℤ → List ℤ
irregular_of b1 seasonal trend = minus (minus b1 seasonal) trend

-- METHOD 4.1 and 4.2: the corrections (5.7) of all months, by an irregular and its weights: B20 and C20
unfoldable pub corrections : List ℤ → List ℕ → List ℤ
corrections irregular weights = tab (length irregular) (λ t. correction_of (irregular ‼ t) (get_or weights t 0))

module _ (start : ℕ) (figures : List ℤ) where
  -- METHOD 4.1, pass B works on B1, the original series: the figures in grains
  unfoldable pub B1 : List ℤ
  B1 = times unit figures

  -- METHOD 4.1, extreme values of SI1 and SI2 being replaced in the pass: B7, the trend-cycle, is T2 of B1; B10, the seasonal, is S2; B13 is the
  -- irregular that both leave
  unfoldable pub B7 : List ℤ
  B7 = T2 (choices_b start B1) B1

  unfoldable pub B10 : List ℤ
  B10 = S2 (choices_b start B1) B1

  unfoldable pub B13 : List ℤ
  B13 = irregular_of B1 B10 B7

  -- METHOD 4.1: B17 are the weights of B13, B20 its corrections, and C1, the series corrected by them, is B1 less B20
  unfoldable pub B17 : List ℕ
  B17 = weights_of start months_of_year B13

  unfoldable pub B20 : List ℤ
  B20 = corrections B13 B17

  unfoldable pub C1 : List ℤ
  C1 = minus B1 B20

  -- METHOD 4.2, pass C works on C1: C7, the trend-cycle, is its T2, C10, the seasonal, its S2; C13 is the irregular that both leave of B1, not of C1
  unfoldable pub C7 : List ℤ
  C7 = T2 choices_c C1

  unfoldable pub C10 : List ℤ
  C10 = S2 choices_c C1

  unfoldable pub C13 : List ℤ
  C13 = irregular_of B1 C10 C7

  -- METHOD 4.2: C17 are the weights of C13, C20 its corrections, and D1, the series corrected by them, is B1 less C20
  unfoldable pub C17 : List ℕ
  C17 = weights_of start months_of_year C13

  unfoldable pub C20 : List ℤ
  C20 = corrections C13 C17

  unfoldable pub D1 : List ℤ
  D1 = minus B1 C20

  -- METHOD 4.6: which seasonal filter pass D takes, by the noise of C13 beside C10
  unfoldable pub final_seasonal_filter : SeasonalFilter
  final_seasonal_filter = chosen_filter months_of_year C13 C10

  -- METHOD 4.3, pass D works on D1: D10, the final seasonal, is its S2, by that filter; D11, the adjusted figure, is B1 less D10
  unfoldable pub D10 : List ℤ
  D10 = S2 (choices_d final_seasonal_filter) D1

  unfoldable pub D11 : List ℤ
  D11 = minus B1 D10

  -- METHOD 4.5: how many terms the final trend's filter has, by the noise of C13 beside C7
  unfoldable pub final_terms : Terms
  final_terms = trend_length choices_c.half_year C13 C7

  -- METHOD 4.3: D12, the final trend-cycle, is Henderson's filter of that length, of the difference D1 less D10; D13, the final irregular, is D11 less
  -- D12
  unfoldable pub D12 : List ℤ
  D12 = filter (table_henderson final_terms) (minus D1 D10)

  unfoldable pub D13 : List ℤ
  D13 = minus D11 D12

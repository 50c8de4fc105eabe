-- What the functions of the three passes ask and leave. Nothing here is promised to a caller of the desk.
use Rattle.std.specs.Prelude.{◌≡◌, List, ℕ, ◌≤◌, length, ℤ}
use Rattle.integers.specs.Lists.{AllWithin}
use Rattle.refusals.specs.Limits.{least_months, months_of_year}
use Rattle.series.specs.Operations.{minus}
use Rattle.series.specs.Promises.{Figures}
use Rattle.rows.specs.declared.SeasonalFilter.{SeasonalFilter}
use Rattle.rows.specs.declared.Terms.{Terms}
use Rattle.rows.specs.FilterTables.{table_henderson}
use Rattle.filters.specs.Filter.{filter}
use Rattle.steps.specs.Steps.{S2}
use Rattle.extremes.specs.Weighing.{weights_of}
use Rattle.tables.specs.Tables.{choices_d, irregular_of, corrections, B17, C7, C10, C13, C17, D1, D10, D11, D12, D13}
use Rattle.tables.specs.Bounds.{largest_c7, largest_c10, largest_d1}
use Rattle.scratch.specs.Scratch.{zeroed}

-- the seasonal and the trend that a pass leaves to find extreme months by: B10 and B7, or C10 and C7
pub record Correctable (f s t : List ℤ) : Type 0 where
  pub s_long : length s ≡ length f
  pub t_long : length t ≡ length f
  pub s_small : AllWithin largest_c10 s
  pub t_small : AllWithin largest_c7 t

-- four slices to work in, each as long as the figures
pub record WorkSlices (f a b t s : List ℤ) : Type 0 where
  pub a_long : length a ≡ length f
  pub b_long : length b ≡ length f
  pub t_long : length t ≡ length f
  pub s_long : length s ≡ length f

-- the slices of B17 and C17
pub record WeightSlices (f : List ℤ) (b17 c17 : List ℕ) : Type 0 where
  pub b17_long : length b17 ≡ length f
  pub c17_long : length c17 ≡ length f

-- B1 less the corrections of an irregular by its weights: C1 of B13, D1 of C13
unfoldable pub less_extremes : ℕ → List ℤ → List ℤ → List ℤ
less_extremes start b1 irregular = minus b1 (corrections irregular (weights_of start months_of_year irregular))

-- what correcting extremes by a seasonal and a trend leaves: the next series, the irregular and its weights
pub record ExtremesCorrected (start : ℕ) (b1 s t x i : List ℤ) (w : List ℕ) : Type 0 where
  pub series : x ≡ less_extremes start b1 (irregular_of b1 s t)
  pub irregular : i ≡ irregular_of b1 s t
  pub weights : w ≡ weights_of start months_of_year (irregular_of b1 s t)

-- what pass B or C leaves: the next series, and the weights of the irregular by which it was corrected
pub record CorrectedTo (series : List ℤ) (weights : List ℕ) (x : List ℤ) (w : List ℕ) : Type 0 where
  pub series_is : x ≡ series
  pub weights_is : w ≡ weights

-- the tables by which the final seasonal filter and the length of the final trend are chosen
pub record ChoiceTables (start : ℕ) (f i t s : List ℤ) : Type 0 where
  pub irregular : i ≡ C13 start f
  pub trend : t ≡ C7 start f
  pub seasonal : s ≡ C10 start f

-- what passes B and C leave
pub record Corrected (start : ℕ) (f x i t s : List ℤ) (b17 c17 : List ℕ) : Type 0 where
  pub series : x ≡ D1 start f
  pub choice_tables : ChoiceTables start f i t s
  pub b17_is : b17 ≡ B17 start f
  pub c17_is : c17 ≡ C17 start f

-- what pass D takes: the figures, and a series as long as they are and no larger than D1 can be
pub record Final (f x : List ℤ) : Type 0 where
  pub figures : Figures f
  pub long : least_months ≤ length f
  pub x_long : length x ≡ length f
  pub x_small : AllWithin largest_d1 x

-- what pass D on x leaves, by the seasonal filter g and a filter of so many terms for the final trend
pub record Finished (g : SeasonalFilter) (terms : Terms) (b1 x d10 d11 d12 d13 : List ℤ) : Type 0 where
  pub seasonal : d10 ≡ S2 (choices_d g) x
  pub adjusted : d11 ≡ minus b1 (S2 (choices_d g) x)
  pub trend : d12 ≡ filter (table_henderson terms) (minus x (S2 (choices_d g) x))
  pub irregular : d13 ≡ minus (minus b1 (S2 (choices_d g) x)) (filter (table_henderson terms) (minus x (S2 (choices_d g) x)))

-- what the three passes leave: the tables and the weights, and the scratch with its front zeroed
pub record PassesDone (start : ℕ) (f d10 d11 d12 d13 : List ℤ) (b17 c17 : List ℕ) (scratch₀ scratch : List ℤ) : Type 0 where
  pub d10_is : d10 ≡ D10 start f
  pub d11_is : d11 ≡ D11 start f
  pub d12_is : d12 ≡ D12 start f
  pub d13_is : d13 ≡ D13 start f
  pub b17_is : b17 ≡ B17 start f
  pub c17_is : c17 ≡ C17 start f
  pub scratch_is : scratch ≡ zeroed (length f) scratch₀

-- The three passes: what each leaves is the next table of the rules, and is what the next asks.
use mathlib.Core.Path.{◌≡◌, sym, ap, ◌∙◌}
use mathlib.Core.List.{List}
use Prim.Native.Nat.{ℕ, ◌≤◌}
use native.Mathlib.Omega.{arith}
use lib.ListN.{length}
use lib.IntN.{ℤ}
use Rattle.integers.specs.Lists.{AllWithin}
use Rattle.refusals.specs.Limits.{unit, months_of_year}
use Rattle.series.specs.Operations.{minus, times}
use Rattle.series.specs.Promises.{widest, Minusable}
use Rattle.series.proofs.Lengths.{length-minus, length-times}
use Rattle.series.proofs.Largest.{larger, within-minus}
use Rattle.rows.specs.declared.SeasonalFilter.{SeasonalFilter}
use Rattle.rows.specs.declared.SeasonalFilter.TheVariants.{ThreeByFive}
use Rattle.rows.specs.declared.Terms.{Terms}
use Rattle.rows.specs.FilterTables.{table_henderson}
use Rattle.filters.specs.Filter.{filter}
use Rattle.filters.proofs.Lengths.{length-filter}
use Rattle.filters.proofs.Light.{light_henderson}
use Rattle.steps.specs.Choices.{none, Choices, henderson}
use Rattle.steps.specs.Steps.{T2, S2}
use Rattle.steps.proofs.Sound.{Sound, monthly-sound, plain_sound}
use Rattle.steps.proofs.Largest as pass
use Rattle.steps.proofs.Lengths.{length-t2, length-s2}
use Rattle.pass.specs.Promises.{PassSeries, Adjustable, PassDone}
use Rattle.pass_b.specs.Promises.{PassBSeries, PassBDone}
use Rattle.tables.specs.Tables.{choices_d, B1, B7, B10, B13, B17, B20, C1, C7, C10, C13, C17, C20, D1, final_seasonal_filter, D10, D11, final_terms, D12, D13}
use Rattle.tables.specs.Bounds.{largest_c1, largest_c7, largest_d7, largest_d10, largest_d12}
use Rattle.tables.proofs.Sizes.{length-c1, length-c7, length-c10, length-c13, length-d1, within_c1, within_c7, within_c10, within_c13, within_d1}
use Rattle.trend_length.specs.TrendLength.{trend_length}
use Rattle.trend_length.specs.Promises.{Measurable}
use Rattle.seasonal_choice.specs.SeasonalChoice.{chosen_filter}
use Rattle.seasonal_choice.specs.Promises.{Choosable}
use Rattle.figures.specs.Promises.{WithSeasonal}
use Rattle.series.specs.Promises.{Workable}
use Rattle.three_passes.specs.Promises.{Correctable, less_extremes, ExtremesCorrected, CorrectedTo, ChoiceTables, Final, Finished}
use Rattle.three_passes.proofs.Correcting.{within_grains}

-- ---- passes B and C
module _ {start : ℕ} {f : List ℤ} (h : Workable start f) where
  -- the seasonal and the trend of a pass on a series that is no larger than C1
  correctable : {c : Choices} → Sound c → {x s t : List ℤ} → length x ≡ length f → AllWithin largest_c1 x → s ≡ S2 c x → t ≡ T2 c x → Correctable f s t
  correctable {c} ok {x} l k e i = rw (e, i) (record {
    s_long = length-s2 c x ∙ l;
    t_long = length-t2 c x ∙ l;
    s_small = pass.s2 ok k largest_c7 (omega arith);
    t_small = pass.t2 ok k largest_c7 (omega arith);
  })

  -- pass B: x is B1, and C1 comes after it
  module _ {x : List ℤ} (e : x ≡ times unit f) where
    pub series-b : PassBSeries start x
    series-b = rw e (record {
      long = omega (arith, h.long, length-times unit f);
      short = omega (arith, h.figures.short, length-times unit f);
      small = within_grains h.figures;
      early = h.early;
      late = h.late;
    })

    pub correctable_b : {s t : List ℤ} → PassBDone start x t s → Correctable f s t
    correctable_b d = correctable (monthly-sound _ _ _) (ap length e ∙ length-times unit f) (rw e (larger (within_grains h.figures) (omega arith))) d.seasonal d.trend

    pub to_c1 : {s t o i : List ℤ} {w : List ℕ} → PassBDone start x t s → ExtremesCorrected start (times unit f) s t o i w → CorrectedTo (C1 start f) (B17 start f) o w
    unfolding less_extremes C1 B20 B17 B13 B10 B7 B1
    to_c1 d k = record { series_is = k.series ∙ rw (d.seasonal, d.trend, e); weights_is = k.weights ∙ rw (d.seasonal, d.trend, e) }

  -- pass C: x is C1, and D1 comes after it
  module _ {x : List ℤ} (e : x ≡ C1 start f) where
    length-c : length x ≡ length f
    length-c = ap length e ∙ length-c1 start f

    small_c : AllWithin largest_c1 x
    small_c = rw e (within_c1 start h.figures.small)

    pub series-c : PassSeries 6 x
    series-c = record { long = omega (arith, h.long, length-c); short = omega (arith, h.figures.short, length-c); small = larger small_c (omega arith) }

    pub correctable_c : {s t : List ℤ} → PassDone ThreeByFive x t s → Correctable f s t
    correctable_c d = correctable plain_sound length-c small_c d.seasonal d.trend

    pub to_d1 : {s t o i : List ℤ} {w : List ℕ} → PassDone ThreeByFive x t s → ExtremesCorrected start (times unit f) s t o i w
        → CorrectedTo (D1 start f) (C17 start f) o w × ChoiceTables start f i t s
    unfolding less_extremes D1 C20 C17 C13 C10 C7 B1
    to_d1 d k = (
      record { series_is = k.series ∙ rw (d.seasonal, d.trend, e); weights_is = k.weights ∙ rw (d.seasonal, d.trend, e) },
      record { irregular = k.irregular ∙ rw (d.seasonal, d.trend, e); trend = d.trend ∙ rw e; seasonal = d.seasonal ∙ rw e },
    )

  pub final : {x : List ℤ} → x ≡ D1 start f → Final f x
  final e = rw e (record { figures = h.figures; long = h.long; x_long = length-d1 start f; x_small = within_d1 start h.figures.small })

  -- ---- the tables by which the length of the final trend is chosen
  as_long : {b : ℕ} {x : List ℤ} → length x ≡ length f → AllWithin b x → b ≤ widest → Measurable 6 x
  as_long l k i = record { long = omega (arith, h.long); short = omega (arith, h.figures.short); small = larger k i }

  pub measurable : {i t s : List ℤ} → ChoiceTables start f i t s → Measurable 6 i × Measurable 6 t
  measurable q = rw (q.irregular, q.trend)
      (as_long (length-c13 start f) (within_c13 start h.figures.small) (omega arith), as_long (length-c7 start f) (within_c7 start h.figures.small) (omega arith))

  pub final_terms_lem : {m : Terms} {i t s : List ℤ} → ChoiceTables start f i t s → m ≡ trend_length 6 i t → m ≡ final_terms start f
  unfolding final_terms
  final_terms_lem q e = e ∙ rw (q.irregular, q.trend)

  -- and those by which the final seasonal filter is
  pub choosable : {i t s : List ℤ} → ChoiceTables start f i t s → Choosable months_of_year i s
  choosable q = rw (q.irregular, q.seasonal) (record {
    both = record {
      short = omega (arith, h.figures.short, length-c13 start f);
      same = length-c10 start f ∙ sym (length-c13 start f);
      irregular_small = larger (within_c13 start h.figures.small) (omega arith);
      seasonal_small = larger (within_c10 start h.figures.small) (omega arith);
    };
    long = omega (arith, h.long, length-c13 start f);
  })

  pub final_seasonal : {g : SeasonalFilter} {i t s : List ℤ} → ChoiceTables start f i t s → g ≡ chosen_filter months_of_year i s → g ≡ final_seasonal_filter start f
  unfolding final_seasonal_filter
  final_seasonal q e = e ∙ rw (q.irregular, q.seasonal)

-- ---- pass D, by the seasonal filter g
module _ {f x : List ℤ} (h : Final f x) where
  pub series : PassSeries 6 x
  series = record {
    long = omega (arith, h.long, h.x_long);
    short = omega (arith, h.figures.short, h.x_long);
    small = larger h.x_small (omega arith);
  }

  s2_small : (g : SeasonalFilter) → AllWithin largest_d10 (S2 (choices_d g) x)
  s2_small g = pass.s2 (monthly-sound g none none) h.x_small largest_d7 (omega arith)

  pub adjustable : (g : SeasonalFilter) {s : List ℤ} → s ≡ S2 (choices_d g) x → Adjustable x s
  adjustable g e = rw e (record {
    long = omega (arith, h.long, h.x_long);
    both = record {
      short = omega (arith, h.figures.short, h.x_long);
      long = length-s2 (choices_d g) x;
      left = larger h.x_small (omega arith);
      right = larger (s2_small g) (omega arith);
    };
    less = larger (within-minus h.x_small (s2_small g)) (omega arith);
  })

  pub beside : (g : SeasonalFilter) {s : List ℤ} → s ≡ S2 (choices_d g) x → WithSeasonal f s
  beside g e = rw e (record { figures = h.figures; long = length-s2 (choices_d g) x ∙ h.x_long; small = larger (s2_small g) (omega arith) })

  pub minusable : (g : SeasonalFilter) (terms : Terms) {s a t : List ℤ} → s ≡ S2 (choices_d g) x → a ≡ minus (times unit f) s → t ≡ filter (table_henderson terms) (minus x s) → Minusable a t
  minusable g terms e i j = rw (i, j, e) (record {
    short = omega (arith, length-minus (times unit f) (S2 (choices_d g) x), length-times unit f, h.figures.short);
    long = omega (arith, length-minus (times unit f) (S2 (choices_d g) x), length-times unit f, length-filter (table_henderson terms) (minus x (S2 (choices_d g) x)), length-minus x (S2 (choices_d g) x), h.x_long);
    left = larger (within-minus (within_grains h.figures) (s2_small g)) (omega arith);
    right = larger (pass.within-norm (within-minus h.x_small (s2_small g)) (henderson terms) 1440 largest_d12 (light_henderson terms) (omega arith)) (omega arith);
  })

pub finished : {g : SeasonalFilter} {terms : Terms} {b1 x s a t d : List ℤ} → s ≡ S2 (choices_d g) x → a ≡ minus b1 s → t ≡ filter (table_henderson terms) (minus x s) → d ≡ minus a t
    → Finished g terms b1 x s a t d
finished e i j k = record { seasonal = e; adjusted = i ∙ rw e; trend = j ∙ rw e; irregular = k ∙ rw (i, j, e) }

-- D10 to D13, by the filter and the length that the rules choose
pub final_d : (start : ℕ) (f : List ℤ) {g : SeasonalFilter} {m : Terms} {x s a t d : List ℤ} → g ≡ final_seasonal_filter start f → m ≡ final_terms start f → x ≡ D1 start f → Finished g m (times unit f) x s a t d
    → (s ≡ D10 start f) × (a ≡ D11 start f) × (t ≡ D12 start f) × (d ≡ D13 start f)
unfolding D13 D12 D11 D10 B1
final_d start f e i j h = (h.seasonal ∙ rw (e, j), h.adjusted ∙ rw (e, j), h.trend ∙ rw (e, i, j), h.irregular ∙ rw (e, i, j))

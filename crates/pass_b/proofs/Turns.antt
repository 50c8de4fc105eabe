-- What each call of pass B leaves is the next table of the rules, and is what the next call asks: SI1 is weighed and replaced, then SI2.
use mathlib.Core.Path.{◌≡◌, sym, ap, ap₂, subst, ◌∙◌}
use mathlib.Core.List.{List}
use Prim.Native.Nat.{ℕ, ◌*◌, ◌-◌, ◌≤◌}
use native.Mathlib.Omega.{arith}
use lib.ListN.{length, take, drop}
use lib.IntN.{ℤ, pos, ◌-ℤ◌}
use Rattle.integers.proofs.Differences.{rep, ringℤ}
use Rattle.integers.specs.Filling.{Filled}
use Rattle.integers.specs.Lists.{◌‼◌, AllWithin}
use Rattle.integers.proofs.FillingLaws.{tab-same}
use Rattle.refusals.specs.Limits.{months_of_year}
use Rattle.series.specs.Operations.{minus}
use Rattle.series.specs.Promises.{Minusable}
use Rattle.series.proofs.Lengths.{length-minus, at-minus}
use Rattle.series.proofs.Largest.{larger, within-minus, within-pick}
use Rattle.rows.specs.declared.SeasonalFilter.TheVariants.{ThreeByThree, ThreeByFive}
use Rattle.rows.specs.FilterTables.{table2x12, table_seasonal}
use Rattle.filters.specs.Filter.{value_at, filter}
use Rattle.filters.specs.Promises.{Filterable, FilterableMonths}
use Rattle.filters.proofs.Lengths.{length-filter}
use Rattle.filters.proofs.ByMonth.{all-months}
use Rattle.replacing.specs.Replaced.{replaced_by}
use Rattle.steps.specs.Choices.{MovingAverage, average2x12, average_seasonal, none, by_weights, plain_monthly}
use Rattle.steps.specs.Places.{at_month}
use Rattle.steps.specs.ByMonth.{Stands}
use Rattle.steps.specs.Steps.{SI1, T2, SI2}
use Rattle.steps.proofs.Sound.{Norm, Sound, monthly-sound, plain_sound}
use Rattle.steps.proofs.Shared.{same_si1, same_t2, same_si2}
use Rattle.steps.proofs.Largest as sizes
use Rattle.steps.proofs.Lengths.{length-si1, length-si2}
use Rattle.steps.proofs.ByMonth.{part-inner, stands-months}
use Rattle.extremes.specs.Promises.{Calendar, Weighable}
use Rattle.extremes.specs.Weighing.{weights_of}
use Rattle.pass.specs.Promises.{without_level_at, without_level, PassSeries}
use Rattle.pass.proofs.Places.{inner-is, whole-months, whole_is, filter-months, level-months}
use Rattle.pass.proofs.Stages as stages
use Rattle.tables.specs.PassB.{irregular_b4, start_b4, weights_b4, choices_b4, irregular_b9, weights_b9, choices_b}
use Rattle.tables.specs.Bounds.{largest_b7}
use Rattle.pass_b.specs.Promises.{PassBSeries, largest_si, Weighs}

-- a series less what a table leaves of it is that table
pub taken_twice : (x t : List ℤ) → length t ≡ length x → minus x (minus x t) ≡ t
unfolding minus
taken_twice x t h = sym (tab-same (pos 0) (length x) (λ i. (x ‼ i) -ℤ (minus x t ‼ i)) t h (λ i l. sym (rw (at-minus x t i l) (back (x ‼ i) (t ‼ i)))))
  where
    back : (a b : ℤ) → a -ℤ (a -ℤ b) ≡ b
    back a b = rw (rep a, rep b) (simp ringℤ (omega arith))

-- ---- weighing: r is the 3×3 or 3×5 of si, n numbers each
weighs : {start n : ℕ} (f : MovingAverage) → Norm 1000 f → {si r t s : List ℤ} {w : List ℕ} → length si ≡ n → Calendar start months_of_year n → AllWithin largest_si si
    → r ≡ filter f.table si → length t ≡ n → length s ≡ n → length w ≡ n → Weighs start si r t s w
weighs f l {si} e c h i j k m = record {
  calendar = rw e c;
  si_small = h;
  r_small = rw i (sizes.within-norm h f 1000 largest_si l (omega arith));
  r_long = ap length i ∙ length-filter f.table si;
  t_long = j ∙ sym e;
  s_long = k ∙ sym e;
  w_long = m ∙ sym e;
}

module _ {start : ℕ} {si r t s : List ℤ} {w : List ℕ} (h : Weighs start si r t s w) where
  pub r_filterable : FilterableMonths 0 (length si) r
  r_filterable = rw h.r_long at (all-months (record { short = omega (arith, h.r_long, h.calendar.most); small = larger h.r_small (omega arith) }))

  pub to_level : {l : List ℤ} → Filled (pos 0) (without_level_at 6 table2x12 0 (length si) r) 0 (length si) s l → l ≡ without_level 6 table2x12 r
  to_level f = whole_is (f.long ∙ h.s_long) (level-months table2x12 (whole-months r h.r_long) plain_sound.reach_is (omega (arith, h.calendar.least)) f)

  level-small : AllWithin (2 * largest_si) (without_level 6 table2x12 r)
  level-small = larger (within-minus h.r_small (within-pick _ _ (sizes.within_means h.r_small average2x12 plain_sound.yearly_norm))) (omega arith)

  pub si_minusable : {l : List ℤ} → l ≡ without_level 6 table2x12 r → Minusable si l
  si_minusable e = rw e (record {
    short = h.calendar.most;
    long = length-minus r _ ∙ h.r_long;
    left = larger h.si_small (omega arith);
    right = larger level-small (omega arith);
  })

  pub weighable : {l z a b : List ℤ} {v : List ℕ} → l ≡ without_level 6 table2x12 r → z ≡ minus si l → length a ≡ length si → length b ≡ length si → length v ≡ length si → Weighable start months_of_year z a b v
  weighable {l} {z} e f i j k = let n : length z ≡ length si = ap length f ∙ length-minus si l in record {
    calendar = rw n h.calendar;
    small = rw (f, e) (larger (within-minus h.si_small level-small) (omega arith));
    sizes = i ∙ sym n;
    sums = j ∙ sym n;
    weights = k ∙ sym n;
  }

-- ---- pass B on x
module _ {start : ℕ} {x : List ℤ} (h : PassBSeries start x) where
  pub series : PassSeries 6 x
  series = record { long = h.long; short = h.short; small = larger h.small (omega arith) }

  pub sound4 : Sound (choices_b4 start x)
  sound4 = monthly-sound _ _ _

  pub sound : Sound (choices_b start x)
  sound = monthly-sound _ _ _

  -- steps 1 and 2: the slice b has SI1 at its own months, and a its 3×3
  pub si1_stands : {o b : List ℤ} → Filled (pos 0) (at_month 6 (SI1 plain_monthly x)) 6 (length x - 6) o b → length o ≡ length x → Stands 6 (length x) (SI1 plain_monthly x) b
  si1_stands f o = stages.si1_stands plain_sound series o f

  module _ {b : List ℤ} (e : Stands 6 (length x) (SI1 plain_monthly x) b) where
    pub si1-months : FilterableMonths 6 (length x - 6) b
    si1-months = rw e.long at (stages.si1_filterable plain_sound series e)

    pub si1_part : take (length x - 6 - 6) (drop 6 b) ≡ SI1 plain_monthly x
    si1_part = rw e.long at (part-inner 6 b (omega (arith, e.long, h.long))) ∙ e.months

    pub si1_3x3 : {o a : List ℤ} → Filled (pos 0) (value_at (table_seasonal ThreeByThree) 6 (length x - 6) b) 6 (length x - 6) o a → length o ≡ length x → take (length x - 6 - 6) (drop 6 a) ≡ filter (table_seasonal ThreeByThree) (SI1 plain_monthly x)
    si1_3x3 {o} {a} f i = let l : length a ≡ length x = f.long ∙ i in rw l at (part-inner 6 a (omega (arith, l, h.long))) ∙ inner-is l (filter-months (table_seasonal ThreeByThree) (stands-months e) f)

  -- b is the list SI1, and a its 3×3
  module _ {b : List ℤ} (e : b ≡ SI1 plain_monthly x) where
    si1_long : length b ≡ length x - 12
    si1_long = ap length e ∙ length-si1 plain_monthly x

    si1_small : AllWithin largest_si b
    si1_small = rw e (larger (sizes.si1 plain_sound h.small) (omega arith))

    pub si1_filterable : Filterable b
    si1_filterable = record { short = omega (arith, h.short, si1_long); small = larger si1_small (omega arith) }

    -- from whatever month: that it is the month of t = 6 matters to the weights alone
    pub weighs1 : {first : ℕ} {a t s : List ℤ} {w : List ℕ} → 1 ≤ first → first ≤ months_of_year → a ≡ filter (table_seasonal ThreeByThree) b
        → length t ≡ length x - 12 → length s ≡ length x - 12 → length w ≡ length x - 12 → Weighs first b a t s w
    weighs1 i j = weighs (average_seasonal ThreeByThree) plain_sound.seasonal1_norm si1_long (record { least = omega (arith, h.long); most = omega (arith, h.short); early = i; late = j }) si1_small

    pub weights1 : {a : List ℤ} {w : List ℕ} → a ≡ filter (table_seasonal ThreeByThree) b → w ≡ weights_of (start_b4 start) months_of_year (minus b (without_level 6 table2x12 a)) → w ≡ weights_b4 start x
    unfolding weights_b4 irregular_b4
    weights1 f i = i ∙ ap (weights_of (start_b4 start) months_of_year) (ap₂ minus e (stages.to-inner_s1 plain_sound series e (ap (without_level 6 table2x12) f)))

  -- the slice a has SI1 as it is replaced at its own months
  pub replaced1_stands : {o a : List ℤ} → Filled (pos 0) (at_month 6 (replaced_by months_of_year (weights_b4 start x) (SI1 plain_monthly x))) 6 (length x - 6) o a → length o ≡ length x
      → Stands 6 (length x) (replaced_by months_of_year (weights_b4 start x) (SI1 (choices_b4 start x) x)) a
  replaced1_stands {o} {a} f e =
      stages.si1_stands sound4 series e
      (subst (λ (l : List ℤ). Filled (pos 0) (at_month 6 (replaced_by months_of_year (weights_b4 start x) l)) 6 (length x - 6) o a) (same_si1 _ _ none none (by_weights (weights_b4 start x)) x) f)

  -- step 6: a holds SI2 and b its 3×5
  module _ {a : List ℤ} (e : a ≡ SI2 (choices_b4 start x) x) where
    pub si2_filterable : Filterable a
    si2_filterable = stages.si2_filterable sound4 series e

    pub si2_long : length a ≡ length x
    si2_long = ap length e ∙ length-si2 (choices_b4 start x) x

    si2_small : AllWithin largest_si a
    si2_small = rw e (sizes.si2 sound4 h.small largest_b7 (omega arith))

    pub si2-months : FilterableMonths 0 (length x) a
    si2-months = rw si2_long at (all-months si2_filterable)

    pub si2_3x5 : {o b : List ℤ} → Filled (pos 0) (value_at (table_seasonal ThreeByFive) 0 (length x) a) 0 (length x) o b → length o ≡ length x → b ≡ filter (table_seasonal ThreeByFive) a
    si2_3x5 f o = whole_is (f.long ∙ o) (filter-months (table_seasonal ThreeByFive) (whole-months a si2_long) f)

    pub si2_minusable : Minusable x a
    si2_minusable = record { short = h.short; long = si2_long; left = larger h.small (omega arith); right = larger si2_small (omega arith) }

    pub weighs2 : {b t s : List ℤ} {w : List ℕ} → b ≡ filter (table_seasonal ThreeByFive) a → length t ≡ length x → length s ≡ length x → length w ≡ length x → Weighs start a b t s w
    weighs2 = weighs (average_seasonal ThreeByFive) plain_sound.seasonal2_norm si2_long (record { least = omega (arith, h.long); most = h.short; early = h.early; late = h.late }) si2_small

    pub weights2 : {b : List ℤ} {w : List ℕ} → b ≡ filter (table_seasonal ThreeByFive) a → w ≡ weights_of start months_of_year (minus a (without_level 6 table2x12 b)) → w ≡ weights_b9 start x
    unfolding weights_b9 irregular_b9
    weights2 f i = i ∙ ap (weights_of start months_of_year) (ap₂ minus e (stages.to_s2 sound4 series e (ap (without_level 6 table2x12) f)))

  -- T2 is that of both turns, and SI2 as it is replaced
  pub to_t2 : {t : List ℤ} → t ≡ T2 (choices_b4 start x) x → t ≡ T2 (choices_b start x) x
  to_t2 e = e ∙ same_t2 _ _ _ _ _ x

  pub to_replaced2 : {b : List ℤ} → b ≡ replaced_by months_of_year (weights_b9 start x) (SI2 (choices_b4 start x) x) → b ≡ replaced_by months_of_year (weights_b9 start x) (SI2 (choices_b start x) x)
  to_replaced2 e = e ∙ ap (replaced_by months_of_year (weights_b9 start x)) (same_si2 _ _ _ _ _ x)

-- What each call of a pass leaves is the next table of the rules, and is what the next call asks, whatever the pass chooses.
use mathlib.Core.Path.{◌≡◌, refl, sym, ap, subst, subst⁻¹, ◌∙◌}
use mathlib.Core.List.{List}
use Prim.Native.Nat.{ℕ, ◌+◌, ◌*◌, ◌-◌, ◌≤◌, ◌<◌}
use native.Mathlib.Omega.{arith}
use lib.ListN.{length}
use lib.IntN.{ℤ, pos, ◌-ℤ◌}
use Rattle.integers.specs.Sizes.{◌within◌}
use Rattle.integers.specs.Lists.{◌‼◌, AllWithin}
use Rattle.integers.specs.Filling.{Filled}
use Rattle.integers.proofs.FillingLaws.{filled_as}
use Rattle.series.specs.Operations.{minus}
use Rattle.series.specs.Promises.{Minusable}
use Rattle.series.proofs.Largest.{larger}
use Rattle.series.proofs.Lengths.{length-minus}
use Rattle.filters.specs.Filter.{value_at, filter}
use Rattle.filters.specs.Promises.{largest, Filterable, FilterableMonths}
use Rattle.steps.specs.Choices.{MovingAverage, replaced, Choices}
use Rattle.steps.specs.Steps.{level, T1, SI1, filtered_si1, R1, M1, inner_s1, S1, A1, T2, SI2, R2, M2, S2}
use Rattle.steps.specs.Places.{inner, at_month, widened}
use Rattle.steps.specs.ByMonth.{Stands, ByMonth}
use Rattle.pass.specs.Promises.{largest_t2, along, Levels, without_level, PassSeries, Adjustable}
use Rattle.pass.proofs.Places.{inner-is, months-of, within-months, months-filled}
use Rattle.steps.proofs.Sound.{Norm, Sound}
use Rattle.steps.proofs.Largest as sizes
use Rattle.steps.proofs.Lengths.{length-replaced1, length-s1, length-t2, length-replaced2}
use Rattle.steps.proofs.ByMonth.{filter-by-month, months-within, stands-months, by-months}

-- ---- a table that can be filtered: by a mean it can be again; its 2×12 values
mean_within : {first past : ℕ} {x : List ℤ} (f : MovingAverage) → Norm 1000 f → FilterableMonths first past x → (t : ℕ) → first ≤ t → t < past
    → value_at f.table first past x t within largest
mean_within {first} {past} {x} f l s t i j = let m = months-of first past x in
    subst (λ (z : ℤ). z within largest) (filter-by-month f.table m t i j) ((sizes.within-norm (within-months m s.small) f 1000 largest l (omega arith)).at (t - first))

pub mean_filterable : {first past : ℕ} {x old r : List ℤ} (f : MovingAverage) → Norm 1000 f → FilterableMonths first past x → length old ≡ length x
    → Filled (pos 0) (value_at f.table first past x) first past old r → FilterableMonths first past r
mean_filterable f l s e u = record {
  short = omega (arith, s.short, e, u.long);
  inside = omega (arith, s.inside, e, u.long);
  small = λ t i j. subst⁻¹ (λ (z : ℤ). z within largest) (u.here t i j) (mean_within f l s t i j);
}

pub levels : {c : Choices} → Sound c → {first past : ℕ} {r old m : List ℤ} → FilterableMonths first past r → first + (2 * c.half_year + 1) ≤ past → length old ≡ length r
    → Filled (pos 0) (value_at c.yearly.table first past r) (first + c.half_year) (past - c.half_year) old m → Levels c.half_year first past r m
levels {c} ok s long e u = record {
  long = long;
  inside = s.inside;
  short = s.short;
  same = omega (arith, e, u.long);
  left = s.small;
  right = λ t i j. subst⁻¹ (λ (z : ℤ). z within largest) (u.here t i j) (mean_within c.yearly ok.yearly_norm s t (omega arith) (omega arith));
}

-- a series without a seasonal
pub less_filterable : {x s a : List ℤ} → Adjustable x s → a ≡ minus x s → Filterable a
less_filterable {x} {s} h e = rw e (record { short = omega (arith, h.both.short, length-minus x s); small = h.less })

module _ {c : Choices} (ok : Sound c) {x : List ℤ} (s : PassSeries c.half_year x) where
  pub x_filterable : Filterable x
  x_filterable = record { short = s.short; small = larger s.small (omega arith) }

  -- ---- steps 1 to 4
  -- t1 is filled with T1, si with SI1
  by_month1 : ByMonth c x
  by_month1 = by-months c x ok.reach_is (omega (arith, s.long, ok.year_least))

  pub to_t1 : {old t1 : List ℤ} → Filled (pos 0) (value_at c.yearly.table 0 (length x) x) c.half_year (length x - c.half_year) old t1
      → Filled (pos 0) (at_month c.half_year (T1 c x)) c.half_year (length x - c.half_year) old t1
  to_t1 u = filled_as u (λ t l i. sym (by_month1.t1 t (record { not_before = l; not_after = i })))

  pub to_si1 : {old₁ t1 old si : List ℤ} → Filled (pos 0) (at_month c.half_year (T1 c x)) c.half_year (length x - c.half_year) old₁ t1
      → Filled (pos 0) (λ t. (x ‼ t) -ℤ (t1 ‼ along c.half_year 1 c.half_year t)) c.half_year (length x - c.half_year) old si
      → Filled (pos 0) (at_month c.half_year (SI1 c x)) c.half_year (length x - c.half_year) old si
  unfolding along
  to_si1 {t1 = t1} u v = filled_as v (λ t l i.
      let e : c.half_year + 1 * (t - c.half_year) ≡ t = omega arith in
      ap (λ (z : ℤ). (x ‼ t) -ℤ z) (ap (λ (k : ℕ). t1 ‼ k) e ∙ u.here t l i) ∙ sym (by_month1.si1 t (record { not_before = l; not_after = i })))

  -- si is filled with SI1 as it is filtered
  pub si1_stands : {old si : List ℤ} → length old ≡ length x → Filled (pos 0) (at_month c.half_year (filtered_si1 c x)) c.half_year (length x - c.half_year) old si
      → Stands c.half_year (length x) (filtered_si1 c x) si
  si1_stands e u = record { long = u.long ∙ e; months = inner-is (u.long ∙ e) (months-filled (length-replaced1 c x ∙ omega arith) u (λ t l i. refl)) }

  -- si has SI1 as it is filtered, at its own months
  module _ {si : List ℤ} (e : Stands c.half_year (length x) (replaced c.half_year c.replacing1 (SI1 c x)) si) where
    pub si1_filterable : FilterableMonths c.half_year (length si - c.half_year) si
    si1_filterable = rw e.long (record {
      short = omega (arith, s.short, e.long);
      inside = omega (arith, e.long);
      small = months-within (stands-months e) (larger (sizes.replaced1 ok s.small) (omega arith));
    })

    pub to_s1 : {o : List ℤ} → o ≡ widened c.half_year (without_level c.half_year c.yearly.table (filter c.seasonal1.table (inner c.half_year si))) → o ≡ S1 c x
    unfolding S1 inner_s1 M1 R1 level
    to_s1 f = f ∙ rw e.months

  -- SI1 as it is filtered, as a list
  pub to-inner_s1 : {si o : List ℤ} → si ≡ replaced c.half_year c.replacing1 (SI1 c x)
      → o ≡ without_level c.half_year c.yearly.table (filter c.seasonal1.table si) → o ≡ inner_s1 c x
  unfolding inner_s1 M1 R1 level
  to-inner_s1 e f = f ∙ rw e

  -- ---- step 5
  a1_small : AllWithin largest (minus x (S1 c x))
  unfolding A1
  a1_small = larger (sizes.a1 ok s.small) (omega arith)

  pub adjustable : {o : List ℤ} → o ≡ S1 c x → Adjustable x o
  adjustable e = rw e (record {
    long = omega (arith, s.long, ok.year_least);
    both = record {
      short = s.short;
      long = length-s1 c x (omega (arith, s.long));
      left = larger s.small (omega arith);
      right = larger (sizes.s1 ok s.small) (omega arith);
    };
    less = a1_small;
  })

  pub to_t2 : {o t : List ℤ} → o ≡ S1 c x → t ≡ filter c.trend.table (minus x o) → t ≡ T2 c x
  unfolding T2 A1
  to_t2 e f = f ∙ rw e

  -- ---- steps 6 and 7
  pub minusable2 : {t : List ℤ} → t ≡ T2 c x → Minusable x t
  minusable2 e = rw e (record {
    short = s.short;
    long = length-t2 c x;
    left = larger s.small (omega arith);
    right = larger (sizes.t2 ok s.small largest_t2 (omega arith)) (omega arith);
  })

  pub to_si2 : {t a : List ℤ} → t ≡ T2 c x → a ≡ minus x t → a ≡ SI2 c x
  unfolding SI2
  to_si2 e f = f ∙ rw e

  -- si holds SI2 as it is filtered
  module _ {si : List ℤ} (e : si ≡ replaced c.half_year c.replacing2 (SI2 c x)) where
    pub si2_filterable : Filterable si
    si2_filterable = rw e (record { short = omega (arith, s.short, length-replaced2 c x); small = larger (sizes.replaced2 ok s.small largest_t2 (omega arith)) (omega arith) })

    pub to_s2 : {o : List ℤ} → o ≡ without_level c.half_year c.yearly.table (filter c.seasonal2.table si) → o ≡ S2 c x
    unfolding S2 M2 R2 level
    to_s2 f = f ∙ rw e

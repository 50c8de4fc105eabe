-- A filter fills the months of a table by stretches that one row serves. One law for every table: what a stretch asks, and that its row is that for its
-- months.
use mathlib.Core.Path.{◌≡◌, refl, ap₂}
use mathlib.Core.Logic.{◌⊎◌, inl, inr, ⊎_elim}
use mathlib.Core.List.{List}
use Prim.Native.Nat.{ℕ, ◌+◌, ◌*◌, ◌-◌, ◌/◌, ◌≤◌, ◌<◌, min}
use native.Mathlib.Nat.{le-div_iff_mul-le, div-lt_iff_lt-mul, mul-le-mul_right, add-mul}
use native.Mathlib.Omega.{arith}
use lib.IntN.{ℤ}
use Rattle.rows.specs.Table.{Table}
use Rattle.filters.proofs.ByMonth.{steps_fit}
use Rattle.filters.specs.Filter.{earlier, later, by_row, value_at}
use Rattle.filters.specs.Promises.{FilterableMonths, Served, Serves, CanFilter}

-- of a distance d, b steps are whole, or more than a row takes
pub count_is : (step side d b : ℕ) → 1 ≤ step → b ≤ side → b * step ≤ d → (b ≡ side) ⊎ (d < b * step + step) → b ≡ min (d / step) side
count_is step side d b p l m c = let k : b ≤ d / step = (le-div_iff_mul-le p).1 m in ⊎_elim
    (λ (e : b ≡ side). omega (arith, k))
    (λ (q : d < b * step + step). let u : d / step < b + 1 = (div-lt_iff_lt-mul p).1 (omega (arith, add-mul b 1 step)) in omega (arith, k, u)) c

-- each place that a row serves
pub served-at : {F : Table} {b a lo hi : ℕ} {x : List ℤ} → Serves F b a lo hi x → (t : ℕ) → lo ≤ t → t < hi → Served F b a t x
served-at s t l m = record {
  few_before = s.few_before;
  few_after = s.few_after;
  before = omega (arith, s.before);
  after = omega (arith, s.after);
  small = λ i u v. s.small i (omega arith) (omega arith);
}

-- of a table that has the months from `first` to below `past`, those from lo to below hi have b values before them and a after them, no more than a
-- row takes, and all that there are if fewer
pub record Stretch (F : Table) (first past b a lo hi : ℕ) : Type 0 where
  pub order : lo ≤ hi
  pub few_before : b ≤ F.side
  pub few_after : a ≤ F.side
  pub before : first + b * F.step ≤ lo
  pub no_more_before : (b ≡ F.side) ⊎ (hi ≤ first + b * F.step + F.step)
  pub after : hi + a * F.step ≤ past
  pub no_more_after : (a ≡ F.side) ⊎ (past ≤ lo + a * F.step + F.step)

module _ {F : Table} {first past b a lo hi : ℕ} (s : Stretch F first past b a lo hi) where
  stretch_earlier : 1 ≤ F.step → (t : ℕ) → lo ≤ t → t < hi → b ≡ earlier F first t
  unfolding earlier
  stretch_earlier p t l m = count_is F.step F.side (t - first) b p s.few_before (omega (arith, s.before))
      (⊎_elim (λ e. inl e) (λ (e : hi ≤ first + b * F.step + F.step). inr (omega (arith, s.before))) s.no_more_before)

  stretch_later : 1 ≤ F.step → (t : ℕ) → lo ≤ t → t < hi → a ≡ later F past t
  unfolding later
  stretch_later p t l m = count_is F.step F.side (past - 1 - t) a p s.few_after (omega (arith, s.after))
      (⊎_elim (λ e. inl e) (λ (e : past ≤ lo + a * F.step + F.step). inr (omega (arith, s.after))) s.no_more_after)

  -- so the row for as many gives the filter's value there
  pub stretch_value : 1 ≤ F.step → (x : List ℤ) (t : ℕ) → lo ≤ t → t < hi → by_row F b a x t ≡ value_at F first past x t
  unfolding value_at
  stretch_value p x t l m = ap₂ (λ (c d : ℕ). by_row F c d x t) (stretch_earlier p t l m) (stretch_later p t l m)

-- ---- the months of a table that has enough of them
module _ {F : Table} {first past : ℕ} {x : List ℤ} (q : CanFilter F first past x) where
  -- with b values before them, fewer than a row takes
  pub start_stretch : (b : ℕ) → b < F.side → Stretch F first past b F.side (first + b * F.step) (first + b * F.step + F.step)
  start_stretch b l =
      let m : b + 1 ≤ F.side = omega arith in
      let f = mul-le-mul_right F.step m in
      let g = add-mul b 1 F.step in
      record {
        order = omega arith;
        few_before = omega arith;
        few_after = omega arith;
        before = omega arith;
        no_more_before = inr (omega arith);
        after = omega (arith, f, g, q.enough);
        no_more_after = inl refl;
      }

  -- with as many as a row takes on each side
  pub inside_stretch : Stretch F first past F.side F.side (first + F.side * F.step) (past - F.side * F.step)
  inside_stretch = record {
    order = omega (arith, q.enough);
    few_before = omega arith;
    few_after = omega arith;
    before = omega arith;
    no_more_before = inl refl;
    after = omega (arith, q.enough);
    no_more_after = inl refl;
  }

  -- with a values after them, fewer than a row takes
  pub end_stretch : (a : ℕ) → a < F.side → Stretch F first past F.side a (past - a * F.step - F.step) (past - a * F.step)
  end_stretch a l =
      let m : a + 1 ≤ F.side = omega arith in
      let f = mul-le-mul_right F.step m in
      let g = add-mul a 1 F.step in
      record {
        order = omega arith;
        few_before = omega arith;
        few_after = omega arith;
        before = omega (arith, f, g, q.enough);
        no_more_before = inl refl;
        after = omega (arith, f, g, q.enough);
        no_more_after = inr (omega (arith, f, g, q.enough));
      }

-- ---- one month, by its own counts
module _ (F : Table) (first past t : ℕ) {b a : ℕ} (e : b ≡ min ((t - first) / F.step) F.side) (g : a ≡ min ((past - 1 - t) / F.step) F.side) where
  pub place-served : {x : List ℤ} → FilterableMonths first past x → first ≤ t → t < past → Served F b a t x
  place-served q l m =
      let before : b * F.step ≤ t - first = rw e (steps_fit (t - first) F.step F.side) in
      let after : a * F.step ≤ past - 1 - t = rw g (steps_fit (past - 1 - t) F.step F.side) in
      record {
        few_before = omega arith;
        few_after = omega arith;
        before = omega (arith, before);
        after = omega (arith, after, q.inside);
        small = λ i u v. q.small i (omega (arith, before)) (omega (arith, after));
      }

  pub by-counts : (x : List ℤ) → by_row F b a x t ≡ value_at F first past x t
  unfolding value_at earlier later
  by-counts x = rw (e, g)

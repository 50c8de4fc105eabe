-- Tables that have the months from half a year on to half a year before the end: as lists, and in slices, where month t is at place t.
use mathlib.Core.Path.{◌≡◌, sym, ap, ap₂, subst, ◌∙◌}
use mathlib.Core.List.{List}
use Prim.Native.Nat.{ℕ, ◌+◌, ◌*◌, ◌-◌, ◌≤◌, ◌<◌, min, max}
use native.Mathlib.Omega.{arith}
use lib.ListN.{length, take, drop, length-take, length-drop}
use lib.Seq.{get_or-take, get_or-drop}
use lib.IntN.{ℤ, pos, ◌-ℤ◌}
use borrow.Author.Tests.{lt-ltb, le-ltb}
use Rattle.integers.specs.Sizes.{◌within◌}
use Rattle.integers.specs.Lists.{◌‼◌, AllWithin}
use Rattle.integers.proofs.FillingLaws.{at-tab, tab-same}
use Rattle.rows.specs.Table.{Table}
use Rattle.series.specs.Operations.{pick}
use Rattle.series.proofs.Lengths.{at-minus}
use Rattle.filters.specs.Filter.{value_at, filter, reach, inside}
use Rattle.filters.proofs.ByMonth.{MonthsOf, by_month}
use Rattle.steps.specs.Choices.{Choices}
use Rattle.steps.specs.Places.{inner, at_month, nearest_month, nearest_level, copied, widened}
use Rattle.steps.specs.Steps.{level, T1, SI1, R1, M1, inner_s1, S1}
use Rattle.steps.specs.ByMonth.{InnerMonth, Stands, TablesByMonth}
use Rattle.steps.proofs.Lengths.{length-inner, length-r1, length-inner_s1}

at-pick : (n : ℕ) (g : ℕ → ℕ) (x : List ℤ) (i : ℕ) → i < n → pick n g x ‼ i ≡ x ‼ g i
unfolding pick
at-pick n g x i l = at-tab (pos 0) n (λ k. x ‼ g k) i l

-- ---- the inner months of a slice
at_inner : (h : ℕ) (y : List ℤ) (i : ℕ) → i < length y - 2 * h → inner h y ‼ i ≡ y ‼ (h + i)
unfolding inner
at_inner h y i l = let e : i + h ≡ h + i = omega arith in at-pick (length y - 2 * h) (λ k. k + h) y i l ∙ ap (λ (k : ℕ). y ‼ k) e

pub inner-months : (h : ℕ) (y : List ℤ) → MonthsOf h (length y - h) (inner h y) y
inner-months h y = record { long = length-inner h y ∙ omega arith; same = λ i l. at_inner h y i (omega (arith, length-inner h y)) }

-- the part of a slice from half a year to half a year before its end
pub part-inner : (h : ℕ) (x : List ℤ) → 2 * h ≤ length x → take (length x - h - h) (drop h x) ≡ inner h x
unfolding inner pick
part-inner h x l = tab-same (pos 0) (length x - 2 * h) (λ i. x ‼ (i + h)) (take (length x - h - h) (drop h x)) (simp (length-take, length-drop) (omega arith))
    (λ i u. get_or-take (length x - h - h) (drop h x) i (pos 0) (omega arith) ∙ get_or-drop h x i (pos 0) ∙ ap (λ (k : ℕ). x ‼ k) (omega arith))

-- ---- the nearest month with h months on each side, as a place of the list of such months
in_list : (h m u : ℕ) → 2 * h + 1 ≤ m → min (u - h) (m - (2 * h + 1)) + h ≡ max h (min u (m - (h + 1)))
in_list h m u long = omega arith

in_slice : (h first m u : ℕ) → 2 * h + 1 ≤ m → max h (min u (m - (h + 1))) + first ≡ max (first + h) (min (first + u) (first + m - (h + 1)))
in_slice h first m u long = omega arith

module _ (h first past t : ℕ) (long : first + (2 * h + 1) ≤ past) where
  nearest_in : (first ≤ nearest_month h first past t) × (nearest_month h first past t < past)
  unfolding nearest_month
  nearest_in = (omega arith, omega arith)

  level_in : nearest_level h (past - first) (t - first) < past - first - 2 * h
  unfolding nearest_level
  level_in = omega arith

  level-is : first ≤ t → nearest_level h (past - first) (t - first) + h + first ≡ nearest_month h first past t
  unfolding nearest_level nearest_month
  level-is l =
      let e : first + (t - first) ≡ t = omega arith in
      let f : first + (past - first) ≡ past = omega arith in
      ap (λ (k : ℕ). k + first) (in_list h (past - first) (t - first) (omega arith))
      ∙ in_slice h first (past - first) (t - first) (omega arith)
      ∙ ap₂ (λ (p q : ℕ). max (first + h) (min p (q - (h + 1)))) e f

-- ---- a filter of some months, as a list and in the slice
module _ (F : Table) {first past : ℕ} {l y : List ℤ} (m : MonthsOf first past l y) where
  pub filter-by-month : (t : ℕ) → first ≤ t → t < past → filter F l ‼ (t - first) ≡ value_at F first past y t
  unfolding filter
  filter-by-month t i j = at-tab (pos 0) (length l) (value_at F 0 (length l) l) (t - first) (omega (arith, m.long)) ∙ by_month F m t i j

  -- at the months with h on each side
  inside-by-month : (h : ℕ) → reach F ≡ h → (k : ℕ) → k < past - first - 2 * h → k + h + first < past → inside F l ‼ k ≡ value_at F first past y (k + h + first)
  unfolding inside
  inside-by-month h r k i j =
      let e : k + h + first - first ≡ k + reach F = omega (arith, r) in
      at-tab (pos 0) (length l - 2 * reach F) (λ k. value_at F 0 (length l) l (k + reach F)) k (omega (arith, r, m.long))
      ∙ ap (value_at F 0 (length l) l) (sym e) ∙ by_month F m (k + h + first) (omega arith) j

  -- its level
  pub level-by-month : (h : ℕ) → reach F ≡ h → first + (2 * h + 1) ≤ past → (t : ℕ) → first ≤ t → t < past
      → pick (length l) (nearest_level h (length l)) (inside F l) ‼ (t - first) ≡ value_at F first past y (nearest_month h first past t)
  level-by-month h r long t i j =
      let k = nearest_level h (past - first) (t - first) in
      let e = level-is h first past t long i in
      at-pick (length l) (nearest_level h (length l)) _ (t - first) (omega (arith, m.long))
      ∙ ap (λ (n : ℕ). inside F l ‼ nearest_level h n (t - first)) m.long
      ∙ inside-by-month h r k (level_in h first past t long) (omega (arith, e, nearest_in h first past t long))
      ∙ ap (value_at F first past y) e

-- how large the months of the slice are
pub months-within : {b first past : ℕ} {l y : List ℤ} → MonthsOf first past l y → AllWithin b l → (t : ℕ) → first ≤ t → t < past → (y ‼ t) within b
months-within {b} {first} {past} {l} {y} m h t i j =
    let e : first + (t - first) ≡ t = omega arith in
    subst (λ (z : ℤ). z within b) (m.same (t - first) (omega (arith, m.long)) ∙ ap (λ (k : ℕ). y ‼ k) e) (h.at (t - first))

-- ---- METHOD 3.1 to 3.4 by month
-- the list that a slice has at its own months
pub stands-months : {h n : ℕ} {l y : List ℤ} → Stands h n l y → MonthsOf h (n - h) l y
stands-months {h} {n} {l} {y} s = rw (← s.long, ← s.months) (inner-months h y)

-- which of the inner numbers a month takes
module _ (h n t : ℕ) where
  pub copied-first : t < h → copied h n t ≡ t + h
  unfolding copied
  copied-first l = rw (lt-ltb t h l) (omega arith)

  pub copied-own : h ≤ t → t < n - h → copied h n t ≡ t - h
  unfolding copied
  copied-own l i = rw (le-ltb t h l, lt-ltb t (n - h) i)

  pub copied-last : 2 * h ≤ n → n - h ≤ t → copied h n t ≡ t - 3 * h
  unfolding copied
  copied-last l i = rw (le-ltb t h (omega arith), le-ltb t (n - h) i) (omega arith)

module _ (c : Choices) (x : List ℤ) (r : reach c.yearly.table ≡ c.half_year) (long : 4 * c.half_year + 1 ≤ length x) where
  t1-by-month : (t : ℕ) → InnerMonth c.half_year (length x) t → at_month c.half_year (T1 c x) t ≡ value_at c.yearly.table 0 (length x) x t
  unfolding T1 inside
  t1-by-month t l =
      let e : t - c.half_year + reach c.yearly.table ≡ t = omega (arith, r, l) in
      at-tab (pos 0) (length x - 2 * reach c.yearly.table) (λ i. value_at c.yearly.table 0 (length x) x (i + reach c.yearly.table)) (t - c.half_year) (omega (arith, r, l))
      ∙ ap (value_at c.yearly.table 0 (length x) x) e

  si1-by-month : (t : ℕ) → InnerMonth c.half_year (length x) t → at_month c.half_year (SI1 c x) t ≡ (x ‼ t) -ℤ at_month c.half_year (T1 c x) t
  unfolding SI1
  si1-by-month t l =
      let e : c.half_year + (t - c.half_year) ≡ t = omega (arith, l) in
      at-minus (inner c.half_year x) (T1 c x) (t - c.half_year) (omega (arith, length-inner c.half_year x, l))
      ∙ ap (λ (z : ℤ). z -ℤ (T1 c x ‼ (t - c.half_year))) (at_inner c.half_year x (t - c.half_year) (omega (arith, l)) ∙ ap (λ (k : ℕ). x ‼ k) e)

  -- S1 takes an inner number at every month
  s1_copies : (t : ℕ) → t < length x → S1 c x ‼ t ≡ inner_s1 c x ‼ copied c.half_year (length x) t
  unfolding S1 widened
  s1_copies t l =
      let e : length (inner_s1 c x) + 2 * c.half_year ≡ length x = omega (arith, length-inner_s1 c x) in
      at-pick _ (copied c.half_year (length (inner_s1 c x) + 2 * c.half_year)) (inner_s1 c x) t (omega (arith, e))
      ∙ ap (λ (n : ℕ). inner_s1 c x ‼ copied c.half_year n t) e

  -- month t takes the number of month u
  s1_as : (t u : ℕ) → t < length x → InnerMonth c.half_year (length x) u → copied c.half_year (length x) t ≡ u - c.half_year → S1 c x ‼ t ≡ S1 c x ‼ u
  s1_as t u l m e =
      s1_copies t l ∙ ap (λ (k : ℕ). inner_s1 c x ‼ k) (e ∙ sym (copied-own c.half_year (length x) u m.not_before m.not_after))
      ∙ sym (s1_copies u (omega (arith, m.not_after)))

  s1-by-month : (t : ℕ) → InnerMonth c.half_year (length x) t → S1 c x ‼ t ≡ at_month c.half_year (R1 c x) t -ℤ at_month c.half_year (M1 c x) t
  unfolding inner_s1
  s1-by-month t l =
      s1_copies t (omega (arith, l.not_after)) ∙ ap (λ (k : ℕ). inner_s1 c x ‼ k) (copied-own c.half_year (length x) t l.not_before l.not_after)
      ∙ at-minus (R1 c x) (M1 c x) (t - c.half_year) (omega (arith, length-r1 c x, l.not_before, l.not_after))

  first-from : (t : ℕ) → t < c.half_year → S1 c x ‼ t ≡ S1 c x ‼ (t + 2 * c.half_year)
  first-from t l = s1_as t (t + 2 * c.half_year) (omega arith) (record { not_before = omega arith; not_after = omega arith })
      (copied-first c.half_year (length x) t l ∙ omega arith)

  last-from : (t : ℕ) → length x - c.half_year ≤ t → t < length x → S1 c x ‼ t ≡ S1 c x ‼ (t - 2 * c.half_year)
  last-from t l m = s1_as t (t - 2 * c.half_year) m (record { not_before = omega arith; not_after = omega arith })
      (copied-last c.half_year (length x) t (omega arith) l ∙ omega arith)

pub by-months : TablesByMonth
unfolding R1 M1 level
by-months c x r long = record {
  t1 = t1-by-month c x r long;
  si1 = si1-by-month c x r long;
  r1 = λ si s t l. filter-by-month c.seasonal1.table (stands-months s) t l.not_before l.not_after;
  m1 = λ y s t l. level-by-month c.yearly.table (stands-months s) c.half_year r (omega (arith, long)) t l.not_before l.not_after;
  s1 = s1-by-month c x r long;
  s1_first = first-from c x r long;
  s1_last = last-from c x r long;
}

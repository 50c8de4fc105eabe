-- The rearrangements of a pass, month by month, h being half a year: all of it is linear in h.
use mathlib.Core.Path.{◌≡◌, sym, ap, ap₂, subst, subst⁻¹, ◌∙◌}
use mathlib.Core.List.{List}
use Prim.Native.Nat.{ℕ, ◌+◌, ◌*◌, ◌-◌, ◌≤◌, ◌<◌}
use native.Mathlib.Decide.{dec_le}
use native.Mathlib.Omega.{arith}
use lib.ListN.{length, get_or-eq_default}
use lib.Seq.{ext_get_or}
use lib.IntN.{ℤ, pos, ◌-ℤ◌}
use Rattle.std.specs.List.{CopiedTo, SameBelow, SameFrom}
use Rattle.integers.specs.Sizes.{◌within◌}
use Rattle.integers.specs.Lists.{◌‼◌, tab, AllWithin}
use Rattle.integers.specs.Filling.{Filled}
use Rattle.integers.proofs.SizeLaws.{by-abs}
use Rattle.integers.proofs.FillingLaws.{length-tab, at-tab, tab-same, filled_on, filled_as}
use Rattle.series.specs.Operations.{pick}
use Rattle.series.proofs.Lengths.{length-minus, at-minus}
use Rattle.rows.specs.Table.{Table}
use Rattle.filters.specs.Filter.{value_at, filter, reach}
use Rattle.filters.proofs.Lengths.{length-filter}
use Rattle.filters.proofs.ByMonth.{MonthsOf}
use Rattle.steps.specs.Places.{inner, nearest_month, copied, widened}
use Rattle.steps.proofs.Lengths.{length-inner}
use Rattle.steps.proofs.ByMonth.{inner-months, filter-by-month, level-by-month, copied-first, copied-own, copied-last}
use Rattle.pass.specs.Promises.{along, LessAlong, Levels, without_level_at, without_level}

-- ---- the level in three stretches: the first repeated, each in turn, the last repeated
module _ (h first past t : ℕ) (long : first + (2 * h + 1) ≤ past) where
  nearest-has : (first + h ≤ nearest_month h first past t) × (nearest_month h first past t < past - h)
  unfolding nearest_month
  nearest-has = (omega arith, omega arith)

  nearest-first : t < first + h → along (first + h) 0 first t ≡ nearest_month h first past t
  unfolding along nearest_month
  nearest-first u = omega arith

  nearest-own : first + h ≤ t → t < past - h → along (first + h) 1 (first + h) t ≡ nearest_month h first past t
  unfolding along nearest_month
  nearest-own l u = omega arith

  nearest-last : past - h ≤ t → along (past - (h + 1)) 0 (past - h) t ≡ nearest_month h first past t
  unfolding along nearest_month
  nearest-last l = omega arith

module _ {h first past : ℕ} {r m : List ℤ} (s : Levels h first past r m) where
  -- a stretch whose months go with the nearest
  stretch : (i step lo hi : ℕ) → first ≤ lo → lo ≤ hi → hi ≤ past → ((t : ℕ) → lo ≤ t → t < hi → along i step lo t ≡ nearest_month h first past t) → LessAlong i step lo hi r m
  stretch i step lo hi l o u e = record {
    order = o;
    inside = omega (arith, s.inside);
    short = s.short;
    same = s.same;
    each = λ t p q. omega (arith, e t p q, nearest-has h first past t s.long, s.inside, s.same);
    left = λ t p q. s.left t (omega arith) (omega arith);
    right = λ t p q. let n = nearest-has h first past t s.long in s.right _ (omega (arith, e t p q, n)) (omega (arith, e t p q, n));
  }

  pub first_levels : LessAlong (first + h) 0 first (first + h) r m
  first_levels = stretch _ _ _ _ (omega arith) (omega arith) (omega (arith, s.long)) (λ t l u. nearest-first h first past t s.long u)

  pub own_levels : LessAlong (first + h) 1 (first + h) (past - h) r m
  own_levels = stretch _ _ _ _ (omega arith) (omega (arith, s.long)) (omega arith) (λ t l u. nearest-own h first past t s.long l u)

  pub last_levels : LessAlong (past - (h + 1)) 0 (past - h) past r m
  last_levels = stretch _ _ _ _ (omega (arith, s.long)) (omega arith) (omega arith) (λ t l u. nearest-last h first past t s.long l)

  pub levels_filled : {old a b c : List ℤ} → Filled (pos 0) (λ t. (r ‼ t) -ℤ (m ‼ along (first + h) 0 first t)) first (first + h) old a
      → Filled (pos 0) (λ t. (r ‼ t) -ℤ (m ‼ along (first + h) 1 (first + h) t)) (first + h) (past - h) a b
      → Filled (pos 0) (λ t. (r ‼ t) -ℤ (m ‼ along (past - (h + 1)) 0 (past - h) t)) (past - h) past b c
      → Filled (pos 0) (λ t. (r ‼ t) -ℤ (m ‼ nearest_month h first past t)) first past old c
  levels_filled u v w =
      filled_on (filled_on (filled_as u (λ t l i. same t (nearest-first h first past t s.long i)))
      v (omega arith) (omega (arith, s.long)) (λ t l i. same t (nearest-own h first past t s.long l i)))
      w (omega (arith, s.long)) (omega arith) (λ t l i. same t (nearest-last h first past t s.long l))
    where
      same : (t : ℕ) {i j : ℕ} → i ≡ j → (r ‼ t) -ℤ (m ‼ i) ≡ (r ‼ t) -ℤ (m ‼ j)
      same t e = ap (λ (k : ℕ). (r ‼ t) -ℤ (m ‼ k)) e

  -- where m is the filter by the rows F
  pub without_levels : (F : Table) {m₀ old out : List ℤ} → Filled (pos 0) (value_at F first past r) (first + h) (past - h) m₀ m
      → Filled (pos 0) (λ t. (r ‼ t) -ℤ (m ‼ nearest_month h first past t)) first past old out → Filled (pos 0) (without_level_at h F first past r) first past old out
  unfolding without_level_at
  without_levels F u v = filled_as v (λ t l i. let n = nearest-has h first past t s.long in ap (λ (z : ℤ). (r ‼ t) -ℤ z) (u.here _ n.0 n.1))

-- ---- all months from the inner ones: both ends are copied
module _ (h n t : ℕ) where
  takes_first : t < h → h + copied h n t ≡ 2 * h + (t - 0)
  takes_first l = omega (arith, copied-first h n t l)

  takes_own : h ≤ t → t < n - h → h + copied h n t ≡ t
  takes_own l i = omega (arith, copied-own h n t l i)

  takes_last : 4 * h ≤ n → n - h ≤ t → h + copied h n t ≡ n - 3 * h + (t - (n - h))
  takes_last l i = omega (arith, copied-last h n t (omega arith) i)

-- the first h months copied to the front, then the last h
module _ (h n : ℕ) (long : 4 * h ≤ n) (old : List ℤ) (e : length old ≡ n) where
  -- month t copies month i, one of the inner ones
  copies : (t i : ℕ) → h + copied h n t ≡ i → i < n - h → old ‼ i ≡ inner h old ‼ copied h n t
  copies t i q l = ap (λ (k : ℕ). old ‼ k) (sym q) ∙ sym ((inner-months h old).same (copied h n t) (omega (arith, length-inner h old, e, q)))

  pub copies_filled : (a b : List ℤ) (m : ℕ) → m ≡ h → length b ≡ n → CopiedTo old a (2 * h) 0 h × SameBelow old a 0 × SameFrom old a h
      → CopiedTo a b (n - 3 * h) (n - h) m × SameBelow a b (n - h) × SameFrom a b (n - h + m) → b ≡ widened h (inner h old)
  unfolding widened pick
  copies_filled a b m q l u v =
      let k : length (inner h old) + 2 * h ≡ n = omega (arith, length-inner h old, e, long) in
      rw k (tab-same (pos 0) n (λ t. inner h old ‼ copied h n t) b l (λ t i. at t i (dec_le h t) (dec_le (n - h) t)))
    where
      at : (t : ℕ) → t < n → Dec (h ≤ t) → Dec (n - h ≤ t) → b ‼ t ≡ inner h old ‼ copied h n t
      at t i (no p) r = v.1 t (pos 0) (omega arith) ∙ u.0 t (pos 0) (omega arith) (omega arith) ∙ copies t _ (takes_first h n t (omega arith)) (omega arith)
      at t i (yes p) (no r) = v.1 t (pos 0) (omega arith) ∙ u.2 t (pos 0) p ∙ copies t t (takes_own h n t p (omega arith)) (omega arith)
      at t i (yes p) (yes r) = v.0 t (pos 0) r (omega arith) ∙ u.2 _ (pos 0) (omega arith) ∙ copies t _ (takes_last h n t long r) (omega arith)

-- ---- a table as a list and in a slice that has its months
-- two lists of the same months
same-months : {first past : ℕ} {l k y : List ℤ} → MonthsOf first past l y → MonthsOf first past k y → l ≡ k
same-months {l = l} {k} p q = ext_get_or (pos 0) l k (omega (arith, p.long, q.long)) (λ i u. p.same i u ∙ sym (q.same i (omega (arith, p.long, q.long))))

-- the inner months; all months
pub inner-is : {h n : ℕ} {l y : List ℤ} → length y ≡ n → MonthsOf h (n - h) l y → inner h y ≡ l
inner-is {h} {n} {l} {y} e m = same-months (subst (λ (n : ℕ). MonthsOf h (n - h) (inner h y) y) e (inner-months h y)) m

pub whole-months : {n : ℕ} (y : List ℤ) → length y ≡ n → MonthsOf 0 n y y
whole-months y e = record { long = omega (arith, e); same = λ i u. let e : i ≡ 0 + i = omega arith in ap (λ (k : ℕ). y ‼ k) e }

pub whole_is : {n : ℕ} {l y : List ℤ} → length y ≡ n → MonthsOf 0 n l y → y ≡ l
whole_is {n} {l} {y} e m = same-months (whole-months y e) m

-- the list of some months
pub months-of : (first past : ℕ) (y : List ℤ) → MonthsOf first past (tab (past - first) (λ i. y ‼ (first + i))) y
months-of first past y = let n = length-tab (past - first) (λ i. y ‼ (first + i)) in record { long = n; same = λ i u. at-tab (pos 0) (past - first) _ i (omega (arith, n)) }

-- how large the numbers of the list are
pub within-months : {b first past : ℕ} {l y : List ℤ} → MonthsOf first past l y → ((t : ℕ) → first ≤ t → t < past → (y ‼ t) within b) → AllWithin b l
within-months {b} {first} {past} {l} {y} m h = record { at = λ i. at i (dec_le (i + 1) (length l)) }
  where
    at : (i : ℕ) → Dec (i + 1 ≤ length l) → (l ‼ i) within b
    at i (yes u) = subst⁻¹ (λ (z : ℤ). z within b) (m.same i (omega arith)) (h (first + i) (omega arith) (omega (arith, m.long)))
    at i (no u) = subst⁻¹ (λ (z : ℤ). z within b) (get_or-eq_default l (pos 0) (omega arith)) (by-abs (omega arith))

-- a slice that is filled with the numbers of a list
pub months-filled : {f : ℕ → ℤ} {first past : ℕ} {l old new : List ℤ} → length l ≡ past - first → Filled (pos 0) f first past old new
    → ((t : ℕ) → first ≤ t → t < past → l ‼ (t - first) ≡ f t) → MonthsOf first past l new
months-filled {f} {first} {past} {l} {old} {new} e u h = record {
  long = e;
  same = λ i p. let k : first + i - first ≡ i = omega arith in let q : first + i < past = omega (arith, e) in
      ap (λ (j : ℕ). l ‼ j) (sym k) ∙ h (first + i) (omega arith) q ∙ sym (u.here (first + i) (omega arith) q);
}

module _ (F : Table) {first past : ℕ} {l y : List ℤ} (m : MonthsOf first past l y) where
  -- filled with its filter
  pub filter-months : {old new : List ℤ} → Filled (pos 0) (value_at F first past y) first past old new → MonthsOf first past (filter F l) new
  filter-months u = months-filled (length-filter F l ∙ m.long) u (filter-by-month F m)

  -- filled with itself less its level
  level-at : (h : ℕ) → reach F ≡ h → first + (2 * h + 1) ≤ past → (t : ℕ) → first ≤ t → t < past → without_level h F l ‼ (t - first) ≡ without_level_at h F first past y t
  unfolding without_level_at
  level-at h r long t i j =
      let e : first + (t - first) ≡ t = omega arith in
      let u : t - first < length l = omega (arith, m.long) in
      at-minus l _ (t - first) u ∙ ap₂ ◌-ℤ◌ (m.same (t - first) u ∙ ap (λ (k : ℕ). y ‼ k) e) (level-by-month F m h r long t i j)

  pub level-months : {h : ℕ} {old new : List ℤ} → reach F ≡ h → first + (2 * h + 1) ≤ past → Filled (pos 0) (without_level_at h F first past y) first past old new
      → MonthsOf first past (without_level h F l) new
  level-months {h} r long u = months-filled (length-minus l _ ∙ m.long) u (level-at h r long)

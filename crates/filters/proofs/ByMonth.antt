-- A table that has some months of a series only stands as a list, whose place 0 is its first month, and in a slice, where month t is at place t: its
-- filter is the same.
use mathlib.Core.Path.{◌≡◌, ap, ◌∙◌}
use mathlib.Core.List.{List}
use Prim.Native.Nat.{ℕ, ◌+◌, ◌*◌, ◌-◌, ◌/◌, ◌≤◌, ◌<◌, min}
use native.Mathlib.Nat.{mul-le-mul_right, div-add-mod', add-mul}
use native.Mathlib.Omega.{arith}
use lib.ListN.{length}
use lib.IntN.{ℤ, ◌*ℤ◌}
use Rattle.integers.specs.Lists.{◌‼◌}
use Rattle.integers.specs.Rounding.{to_grain}
use Rattle.integers.proofs.SumLaws.{sum_same}
use Rattle.rows.specs.Table.{Table, row_for, row_weight, denominator}
use Rattle.filters.specs.Promises.{Filterable, FilterableMonths}
use Rattle.filters.specs.Filter.{dot, weighted_sum, by_row, earlier, later, value_at}

-- so many whole steps fit into d
pub steps_fit : (d step side : ℕ) → min (d / step) side * step ≤ d
steps_fit d step side = let l : min (d / step) side ≤ d / step = omega arith in omega (arith, mul-le-mul_right step l, div-add-mod' d step)

behind : (first t m : ℕ) → first ≤ t → m ≤ t - first → first + m ≤ t
behind first t m l h = omega arith

ahead : (past t m : ℕ) → t < past → m ≤ past - 1 - t → t + m < past
ahead past t m l h = omega arith

left_after : (first past t n : ℕ) → n ≡ past - first → first ≤ t → t < past → n - 1 - (t - first) ≡ past - 1 - t
left_after first past t n e l h = omega arith

-- the list l has the months from `first` to below `past` of the slice y
pub record MonthsOf (first past : ℕ) (l y : List ℤ) : Type 0 where
  pub long : length l ≡ past - first
  pub same : (i : ℕ) → i < length l → l ‼ i ≡ y ‼ (first + i)

module _ (F : Table) {first past : ℕ} {l y : List ℤ} (h : MonthsOf first past l y) where
  -- by a row that meets these months only
  same_row : (b a t : ℕ) → first + b * F.step ≤ t → t + a * F.step < past → by_row F b a l (t - first) ≡ by_row F b a y t
  unfolding by_row weighted_sum dot
  same_row b a t before after = ap (λ (z : ℤ). to_grain z (denominator F (row_for F b a))) (sum_same (b + 1 + a) _ _ term)
    where
      term : (k : ℕ) → k < b + 1 + a
          → row_weight F (row_for F b a) k *ℤ (l ‼ (t - first - b * F.step + k * F.step)) ≡ row_weight F (row_for F b a) k *ℤ (y ‼ (t - b * F.step + k * F.step))
      term k i =
          let m : k ≤ b + a = omega arith in
          let u = mul-le-mul_right F.step m in
          let v = add-mul b a F.step in
          let p : t - first - b * F.step + k * F.step < length l = omega (arith, u, v, h.long) in
          let e : first + (t - first - b * F.step + k * F.step) ≡ t - b * F.step + k * F.step = omega arith in
          ap (λ (z : ℤ). row_weight F (row_for F b a) k *ℤ z) (h.same _ p ∙ ap (λ (n : ℕ). y ‼ n) e)

  -- METHOD 2.3 and 3: place t - first of the list is month t
  pub by_month : (t : ℕ) → first ≤ t → t < past → value_at F 0 (length l) l (t - first) ≡ value_at F first past y t
  unfolding value_at earlier later
  by_month t i j =
      let e : t - first - 0 ≡ t - first = omega arith in
      let f : length l - 1 - (t - first) ≡ past - 1 - t = left_after first past t _ h.long i j in
      rw (e, f) (same_row (min ((t - first) / F.step) F.side) (min ((past - 1 - t) / F.step) F.side) t
      (behind first t _ i (steps_fit (t - first) F.step F.side)) (ahead past t _ j (steps_fit (past - 1 - t) F.step F.side)))

-- all months of a series that can be filtered
pub all-months : {x : List ℤ} → Filterable x → FilterableMonths 0 (length x) x
all-months h = record { short = h.short; inside = omega arith; small = λ t l m. h.small.at t }

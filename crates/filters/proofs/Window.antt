-- The row and the values that a filter reads are there, and its sum is small.
use mathlib.Core.Path.{◌≡◌, ap, ◌∙◌}
use mathlib.Core.Bool.{Bool, true, false, cond}
use mathlib.Core.List.{List}
use Prim.Native.Nat.{ℕ, ◌+◌, ◌*◌, ◌-◌, ◌≤◌, ◌<◌}
use native.Mathlib.Nat.{le_trans, mul-le-mul_left, mul-le-mul_right, add-mul}
use native.Mathlib.Omega.{arith}
use lib.Dec.{eqb}
use borrow.Author.Tests.{eq-eqb, ne_eqb}
use lib.ListN.{length, take, drop}
use lib.Seq.{get_or-take, get_or-drop}
use lib.IntN.{ℤ, pos, nat_abs, ◌*ℤ◌}
use Rattle.integers.specs.Sizes.{◌within◌}
use Rattle.integers.proofs.SizeLaws.{w≤}
use Rattle.integers.specs.Lists.{◌‼◌}
use Rattle.integers.specs.Rounding.{to_grain}
use Rattle.integers.proofs.Parts.{part_long}
use Rattle.integers.specs.Sums.{norm}
use Rattle.integers.proofs.SumLaws.{sum_same, sum_n-same, wsum-within}
use Rattle.integers.specs.Promises.{largest_quotient}
use Rattle.rows.specs.Table.{Table, row_for, middle_row, row_weight, denominator}
use Rattle.filters.specs.Filter.{dot, weighted_sum, by_row}
use Rattle.rows.specs.Stored.{largest_norm, largest_over, Readable}
use Rattle.filters.specs.Promises.{largest, Dots, Served}

pub denominator-limits : (F : Table) → Readable F → (r : ℕ) → (1 ≤ denominator F r) × (denominator F r ≤ largest_over)
unfolding denominator
denominator-limits F h r = go (eqb r (middle_row F))
  where
    go : (b : Bool) → (1 ≤ cond b F.middle F.ends) × (cond b F.middle F.ends ≤ largest_over)
    go true = (h.middle_least, h.middle_most)
    go false = (h.ends_least, h.ends_most)

-- values that are no larger than the largest, weighted, are over d a quotient that can be rounded
quotient_fits : (a d : ℕ) → a * 1000 ≤ largest_norm * d → a * largest ≤ largest_quotient * d
quotient_fits a d h = omega arith

-- b values precede place t of x, and a follow
module _ (F : Table) (x : List ℤ) (t b a : ℕ) (ok : Readable F) (v : Served F b a t x) where
  -- the values that the row meets lie between the first and the last of them
  meets : (k : ℕ) → k < b + 1 + a → (t ≤ t - b * F.step + k * F.step + b * F.step) × (t - b * F.step + k * F.step ≤ t + a * F.step)
  meets k l = let m : k ≤ b + a = omega arith in
      (omega (arith, v.before), omega (arith, v.before, mul-le-mul_right F.step m, add-mul b a F.step))

  row_room : row_for F b a * F.width + (b + 1 + a) ≤ length F.rows
  unfolding row_for
  row_room =
      let l : b * F.row_step + (F.side - a) ≤ F.side * F.row_step + F.side = omega (arith, mul-le-mul_right F.row_step v.few_before) in
      omega (arith, v, mul-le-mul_right F.width l, ok.rows_long)

  -- the row's weights, as the code takes them out of the rows
  abbrev pub at : ℕ
  at = row_for F b a * F.width

  abbrev pub weights : List ℤ
  weights = take (at + b + 1 + a - at) (drop at F.rows)

  weights_long : length weights ≡ b + 1 + a
  weights_long = part_long at (at + b + 1 + a) F.rows (omega arith) (omega (arith, row_room)) ∙ omega arith

  weight : (k : ℕ) → k < b + 1 + a → weights ‼ k ≡ row_weight F (row_for F b a) k
  unfolding row_weight
  weight k l = get_or-take (at + b + 1 + a - at) (drop at F.rows) k (pos 0) (omega arith) ∙ get_or-drop at F.rows k (pos 0)

  sum_is : dot (length weights) (λ k. weights ‼ k) x (t - b * F.step) F.step ≡ weighted_sum F b a x t
  unfolding dot weighted_sum
  sum_is = rw weights_long (sum_same (b + 1 + a) _ _ (λ k l. ap (λ (w : ℤ). w *ℤ (x ‼ (t - b * F.step + k * F.step))) (weight k l)))

  norm_is : norm (length weights) (λ k. weights ‼ k) ≡ norm (b + 1 + a) (row_weight F (row_for F b a))
  norm_is = rw weights_long (sum_n-same (b + 1 + a) _ _ (λ k l. ap nat_abs (weight k l)))

  pub dots : Dots weights x (t - b * F.step) F.step
  dots = record {
    light = rw norm_is (le_trans (ok.light b a v.few_before v.few_after) (mul-le-mul_left largest_norm (denominator-limits F ok (row_for F b a)).1));
    places = λ k l. omega (arith, meets k (omega (arith, weights_long)), v.after);
    small = λ k l. let m = meets k (omega (arith, weights_long)) in v.small (t - b * F.step + k * F.step) m.0 m.1;
  }

  -- what the sum and its rounding give
  module _ {sum : ℤ} (e : sum ≡ dot (length weights) (λ k. weights ‼ k) x (t - b * F.step) F.step) where
    pub sum-within : sum within largest_quotient * denominator F (row_for F b a)
    unfolding weighted_sum dot
    sum-within = rw (e ∙ sum_is) (w≤ (wsum-within (b + 1 + a) (row_weight F (row_for F b a)) (λ k. x ‼ (t - b * F.step + k * F.step)) largest (λ k l. let m = meets k l in v.small _ m.0 m.1))
        (quotient_fits _ (denominator F (row_for F b a)) (ok.light b a v.few_before v.few_after)))

    pub value_is : {z : ℤ} → z ≡ to_grain sum (denominator F (row_for F b a)) → z ≡ by_row F b a x t
    unfolding by_row
    value_is g = rw (← sum_is, ← e) g

-- the denominator of a row
pub in_middle : (F : Table) (r : ℕ) → r ≡ F.side * F.row_step → F.middle ≡ denominator F r
unfolding denominator middle_row
in_middle F r e = rw (eq-eqb r (F.side * F.row_step) e)

pub at-ends : (F : Table) (r : ℕ) → (r ≡ F.side * F.row_step → ⊥) → F.ends ≡ denominator F r
unfolding denominator middle_row
at-ends F r e = rw (ne_eqb r (F.side * F.row_step) e)

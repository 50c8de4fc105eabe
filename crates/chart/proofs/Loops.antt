-- What the loops over a file in month order need.
use Prim.Native.Nat.{ℕ, suc, ◌+◌, ◌-◌, ◌*◌, ◌/◌, ◌%◌, ◌<◌, ◌≤◌}
use mathlib.Core.Path.{◌≡◌, refl, sym, ap, ◌∙◌}
use mathlib.Core.List.{List}
use native.Mathlib.Nat.{mul-zero, mul-suc, suc-mul, mod-lt, mod-eq_of_lt, div-add-mod', mod-one, div-one}
use native.Mathlib.Decide.{dec_le}
use native.Mathlib.Omega.{arith}
use lib.ListN.{length, get_or}
use Rattle.integers.specs.Lists.{tab}
use Rattle.integers.specs.Sums.{sum_n}
use Rattle.integers.proofs.SumLaws.{sum_n-more}
use Rattle.integers.proofs.FillingLaws.{length-tab, at-tab, tab-same}
use Rattle.chart.specs.Chart.{Starts, column_of, first_in, in_column, place, month_order, order_of_t}
use Rattle.chart.proofs.Places.{mod-of, div-of, first_below, column-below, place-below, place-cell, outside, month-cell, in-its-column, all_columns}
use Rattle.chart.proofs.Rearranging.{length-order_of_t, at-order_of_t, columns_again}
use Rattle.chart.specs.Promises.{Follows, Reached}

-- ---- what loops need
-- a list made place by place, back in the order of months
module _ {A : Type 0} (d : A) (p s : ℕ) (v : Starts p s) (n : ℕ) (f : ℕ → A) where
  pub length-order_of_t-tab : length (order_of_t d p s (tab n f)) ≡ n
  length-order_of_t-tab = length-order_of_t d p s v (tab n f) ∙ length-tab n f

  pub at-order_of_t-tab : (t : ℕ) → t < n → get_or (order_of_t d p s (tab n f)) t d ≡ f (place p s n t)
  at-order_of_t-tab t h =
      (rw (length-tab n f) at (at-order_of_t d p s v (tab n f) t (rw (length-tab n f) h)))
      ∙ at-tab d n f (place p s n t) (place-below p s v n t h)

  pub order_of_t-tab : order_of_t d p s (tab n f) ≡ tab n (λ t. f (place p s n t))
  order_of_t-tab = tab-same d n (λ t. f (place p s n t)) (order_of_t d p s (tab n f)) length-order_of_t-tab at-order_of_t-tab

-- ---- month after month in month order
module _ (p s : ℕ) (v : Starts p s) (n : ℕ) where
  -- the first month there
  pub first-place : place p s n (first_in p s 0) ≡ 0
  unfolding sum_n
  first-place =
      let z : first_in p s 0 + p * 0 ≡ first_in p s 0 = omega (arith, mul-zero p) in
      (rw z at (place-cell p s v n 0 0 (omega (arith, v.least, v.most)))) ∙ omega arith

  -- the next of a column
  down : (t : ℕ) → place p s n (t + p) ≡ place p s n t + 1
  unfolding place column_of
  down t =
      let r : t % p < p = mod-lt t (omega (arith, v.least, v.most)) in
      let c : (s - 1 + (t + p)) % p ≡ (s - 1 + t) % p = mod-of p ((s - 1 + t) / p + 1) ((s - 1 + t) % p) _ (mod-lt (s - 1 + t) (omega arith)) (omega (arith, div-add-mod' (s - 1 + t) p, suc-mul ((s - 1 + t) / p) p)) in
      let y : (t + p) / p ≡ t / p + 1 = div-of p (t / p + 1) (t % p) (t + p) r (omega (arith, div-add-mod' t p, suc-mul (t / p) p)) in
      rw (c, y) (omega arith)

  pub next_down : (t : ℕ) → t + p < n → Follows p s n t (t + p)
  next_down t h = record { inside = h; after = λ _. down t }

  -- the last of a column
  last : (t : ℕ) → t < n → n ≤ t + p → place p s n t + 1 ≡ sum_n (column_of p s t + 1) (in_column p s n)
  unfolding place
  last t h e =
      let c = column_of p s t in
      let y : in_column p s n c ≤ suc (t / p) = outside p s v n c (suc (t / p)) (omega (arith, month-cell p s v t, mul-suc p (t / p))) in
      omega (arith, y, in-its-column p s v n t h, sum_n-more c (in_column p s n))

  -- the first of the next column
  pub next-column : (t r : ℕ) → p ≤ n → t < n → n ≤ t + p → r ≡ first_in p s ((column_of p s t + 1) % p) → Follows p s n t r
  next-column t r full h e q =
      record { inside = omega (arith, first_below p s v ((column_of p s t + 1) % p), q); after = λ l. there l (dec_le (column_of p s t + 2) p) }
    where
      there : place p s n t + 1 < n → Dec (column_of p s t + 2 ≤ p) → place p s n r ≡ place p s n t + 1
      there l (yes k) =
          let c = column_of p s t in
          let m : (c + 1) % p ≡ c + 1 = mod-eq_of_lt (omega arith) in
          let z : first_in p s (c + 1) + p * 0 ≡ first_in p s (c + 1) = omega (arith, mul-zero p) in
          let f : place p s n (first_in p s (c + 1)) ≡ sum_n (c + 1) (in_column p s n) + 0 = rw z at (place-cell p s v n (c + 1) 0 (omega arith)) in
          ap (place p s n) (q ∙ ap (first_in p s) m) ∙ f ∙ omega (arith, last t h e)
      there l (no k) =
          let m : column_of p s t + 1 ≡ p = omega (arith, column-below p s v t) in
          absurd (omega (arith, last t h e, all_columns p s v n, ap (λ (j : ℕ). sum_n j (in_column p s n)) m))

-- a loop that goes on in month order begins with the first month there
pub reached_first : {p s n t : ℕ} → Starts p s → p ≤ n → t ≡ first_in p s 0 → Reached p s n 0 t
reached_first {p} {s} {n} v h e = record { inside = omega (arith, e, first_below p s v 0); here = λ _. ap (place p s n) e ∙ first-place p s v n }

-- one column: the order stays
pub one-starts : Starts 1 1
one-starts = record { least = omega arith; most = omega arith }

place_same : (n t : ℕ) → place 1 1 n t ≡ t
unfolding place column_of sum_n
place_same n t = rw (mod-one (1 - 1 + t), div-one t) (omega arith)

pub order_of_t-one : {A : Type 0} (d : A) (xs : List A) → order_of_t d 1 1 xs ≡ xs
unfolding order_of_t
order_of_t-one d xs = sym (tab-same d (length xs) _ xs refl (λ t h. rw (place_same (length xs) t)))

pub month_order-one : {A : Type 0} (d : A) (xs : List A) → month_order d 1 1 xs ≡ xs
month_order-one d xs = ap (month_order d 1 1) (sym (order_of_t-one d xs)) ∙ columns_again d 1 1 one-starts xs

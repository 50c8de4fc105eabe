-- METHOD 7.9: month order loses nothing; and laws of values in month order.
use Prim.Native.Nat.{ℕ, zero, suc, ◌+◌, ◌-◌, ◌*◌, ◌/◌, ◌<◌}
use mathlib.Core.Path.{◌≡◌, refl, sym, ap, ◌∙◌, subst}
use mathlib.Core.List.{List}
use native.Mathlib.Nat.{not-suc-le-zero, add-zero}
use native.Mathlib.Numerals.{add-one}
use native.Mathlib.Omega.{arith}
use lib.ListN.{length, get_or, length-append, get_or-append}
use lib.Seq.{ext_get_or, get_or-append-add}
use Rattle.integers.specs.Lists.{tab}
use Rattle.integers.specs.Sums.{sum_n}
use Rattle.integers.proofs.SumLaws.{sum_n-more, sum_n-upto}
use Rattle.integers.proofs.FillingLaws.{length-tab, at-tab, tab-same}
use Rattle.chart.specs.Chart.{Starts, column_of, first_in, in_column, place, column, next_columns, month_order, order_of_t}
use Rattle.chart.specs.Rearranging.{StandsAt, Places, InOrder, NothingLost}
use Rattle.chart.proofs.Places.{column-below, month-cell, in-its-column, all_columns, place-below, place-column, place-age, place-onto}

-- ---- lists
module _ {A : Type 0} (d : A) (p s : ℕ) (v : Starts p s) (xs : List A) where
  length-column : (c : ℕ) → length (column d p s xs c) ≡ in_column p s (length xs) c
  unfolding column
  length-column c = length-tab (in_column p s (length xs) c) _

  length_from : (c k e : ℕ) → c + k ≡ e → sum_n c (in_column p s (length xs)) + length (next_columns d p s xs c k) ≡ sum_n e (in_column p s (length xs))
  unfolding next_columns
  length_from c zero e h = let z : c ≡ e = omega arith in rw (z, add-zero)
  length_from c (suc k) e h =
      rw (length-append (column d p s xs c) (next_columns d p s xs (suc c) k))
      (omega (arith, length-column c, length_from (suc c) k e (omega arith), simp add-one at (sum_n-more c (in_column p s (length xs)))))

  pub length-month_order : length (month_order d p s xs) ≡ length xs
  unfolding month_order sum_n
  length-month_order = omega (arith, length_from 0 p p (omega arith), all_columns p s v (length xs))

  -- what stands y years down column b, which is j columns on, in the list from column c on
  at-cell : (c k j b y i : ℕ) → c + j ≡ b → j < k → y < in_column p s (length xs) b
      → sum_n c (in_column p s (length xs)) + i ≡ sum_n b (in_column p s (length xs)) + y
      → get_or (next_columns d p s xs c k) i d ≡ get_or xs (first_in p s b + p * y) d
  unfolding next_columns column
  at-cell c zero j b y i q h m e = absurd (not-suc-le-zero h)
  at-cell c (suc k) zero b y i q h m e =
      let z : c ≡ b = omega arith in
      let i' : i ≡ y = omega (arith, rw z at e) in
      let f : ℕ → A = λ y. get_or xs (first_in p s b + p * y) d in
      rw (z, i')
      (get_or-append (tab (in_column p s (length xs) b) f) _ d y (omega (arith, length-tab (in_column p s (length xs) b) f)) ∙ at-tab d (in_column p s (length xs) b) f y m)
  at-cell c (suc k) (suc j) b y i q h m e =
      let next : sum_n (suc c) (in_column p s (length xs)) ≡ sum_n c (in_column p s (length xs)) + in_column p s (length xs) c = simp add-one at (sum_n-more c (in_column p s (length xs))) in
      let r = i - length (column d p s xs c) in
      let i' : length (column d p s xs c) + r ≡ i = omega (arith, length-column c, sum_n-upto (suc c) b (in_column p s (length xs)) (omega arith)) in
      rw (← i')
      (get_or-append-add (column d p s xs c) (next_columns d p s xs (suc c) k) r d
      ∙ at-cell (suc c) k j b y r (omega arith) (omega arith) m (omega (arith, length-column c)))

  -- month t stands at its place
  pub at-place : (t : ℕ) → t < length xs → get_or (month_order d p s xs) (place p s (length xs) t) d ≡ get_or xs t d
  unfolding month_order place sum_n
  at-place t h =
      at-cell 0 p (column_of p s t) (column_of p s t) (t / p) _ (omega arith) (column-below p s v t) (in-its-column p s v (length xs) t h) (omega arith)
      ∙ rw (month-cell p s v t)

  -- there and back nothing is lost
  pub columns_back : order_of_t d p s (month_order d p s xs) ≡ xs
  unfolding order_of_t
  columns_back =
      rw length-month_order
      (sym (tab-same d (length xs) _ xs refl (λ t h. sym (at-place t h))))

  pub length-order_of_t : length (order_of_t d p s xs) ≡ length xs
  unfolding order_of_t
  length-order_of_t = length-tab (length xs) _

  pub at-order_of_t : (t : ℕ) → t < length xs → get_or (order_of_t d p s xs) t d ≡ get_or xs (place p s (length xs) t) d
  unfolding order_of_t
  at-order_of_t t h = at-tab d (length xs) _ t h

-- and back and there
pub columns_again : {A : Type 0} (d : A) (p s : ℕ) (v : Starts p s) (xs : List A) → month_order d p s (order_of_t d p s xs) ≡ xs
columns_again d p s v xs = ext_get_or d (month_order d p s (order_of_t d p s xs)) xs long (λ i h. at i (place-onto p s v (length xs) i (omega (arith, long))))
  where
    long : length (month_order d p s (order_of_t d p s xs)) ≡ length xs
    long = length-month_order d p s v (order_of_t d p s xs) ∙ length-order_of_t d p s v xs

    at : (i : ℕ) → StandsAt p s (length xs) i → get_or (month_order d p s (order_of_t d p s xs)) i d ≡ get_or xs i d
    at i m =
        let there : place p s (length (order_of_t d p s xs)) m.month ≡ i = rw (length-order_of_t d p s v xs) m.there in
        rw (← there) (at-place d p s v (order_of_t d p s xs) m.month (rw (length-order_of_t d p s v xs) m.below))
        ∙ at-order_of_t d p s v xs m.month m.below
        ∙ rw m.there

-- what holds of every value of a series holds of every value in month order
pub month_order-each : {A : Type 0} (P : A → Type 0) (d : A) (p s : ℕ) (v : Starts p s) (xs : List A) → ((t : ℕ) → t < length xs → P (get_or xs t d))
    → (i : ℕ) → i < length (month_order d p s xs) → P (get_or (month_order d p s xs) i d)
month_order-each P d p s v xs h i l =
    let m = place-onto p s v (length xs) i (omega (arith, length-month_order d p s v xs)) in
    let e : get_or (month_order d p s xs) i d ≡ get_or xs m.month d = ap (λ (k : ℕ). get_or (month_order d p s xs) k d) (sym m.there) ∙ at-place d p s v xs m.month m.below in
    subst P (sym e) (h m.month m.below)

-- and what holds of the values of two series, month for month, holds place for place
pub month_order-pair : {A B : Type 0} (R : A → B → Type 0) (d : A) (e : B) (p s : ℕ) (v : Starts p s) (xs : List A) (ys : List B) → length xs ≡ length ys → ((t : ℕ) → t < length xs → R (get_or xs t d) (get_or ys t e))
    → (i : ℕ) → i < length (month_order d p s xs) → R (get_or (month_order d p s xs) i d) (get_or (month_order e p s ys) i e)
month_order-pair R d e p s v xs ys same h i l =
    let m = place-onto p s v (length xs) i (omega (arith, length-month_order d p s v xs)) in
    let x : get_or (month_order d p s xs) i d ≡ get_or xs m.month d = ap (λ (k : ℕ). get_or (month_order d p s xs) k d) (sym m.there) ∙ at-place d p s v xs m.month m.below in
    let there : place p s (length ys) m.month ≡ i = ap (λ (n : ℕ). place p s n m.month) (sym same) ∙ m.there in
    let y : get_or (month_order e p s ys) i e ≡ get_or ys m.month e = ap (λ (k : ℕ). get_or (month_order e p s ys) k e) (sym there) ∙ at-place e p s v ys m.month (omega (arith, m.below)) in
    rw (x, y) (h m.month m.below)

pub order_of_t-pair : {A B : Type 0} (R : A → B → Type 0) (d : A) (e : B) (p s : ℕ) (v : Starts p s) (xs : List A) (ys : List B) → length xs ≡ length ys → ((i : ℕ) → i < length xs → R (get_or xs i d) (get_or ys i e))
    → (t : ℕ) → t < length (order_of_t d p s xs) → R (get_or (order_of_t d p s xs) t d) (get_or (order_of_t e p s ys) t e)
order_of_t-pair R d e p s v xs ys same h t l =
    let k : t < length xs = omega (arith, length-order_of_t d p s v xs) in
    let there : place p s (length ys) t ≡ place p s (length xs) t = rw same in
    rw (at-order_of_t d p s v xs t k, at-order_of_t e p s v ys t (omega arith), there) (h (place p s (length xs) t) (place-below p s v (length xs) t k))

-- two months have two places
pub place-one : (p s : ℕ) (v : Starts p s) (n t u : ℕ) → t < n → u < n → place p s n t ≡ place p s n u → t ≡ u
place-one p s v n t u h k e = sym (at t h) ∙ (rw e (at u k))
  where
    at : (t : ℕ) → t < n → get_or (month_order 0 p s (tab n (λ t. t))) (place p s n t) 0 ≡ t
    at t h =
        let l : length (tab n (λ (t : ℕ). t)) ≡ n = length-tab n (λ (t : ℕ). t) in
        (rw l at (at-place 0 p s v (tab n (λ (t : ℕ). t)) t (rw l h))) ∙ at-tab 0 n (λ (t : ℕ). t) t h

-- ---- the theorems
pub places : Places
places p s n v = record { inside = place-below p s v n; apart = place-one p s v n; every = place-onto p s v n }

pub in_order : InOrder
in_order p s n v = record { by_column = λ t u h k. place-column p s v n t u h; by_age = λ t u h k. place-age p s v n t u }

pub nothing_lost : NothingLost
nothing_lost A d p s xs v = record { at_place = at-place d p s v xs; back = columns_back d p s v xs; again = columns_again d p s v xs }

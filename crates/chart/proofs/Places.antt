-- Laws of the wall chart's columns and of the places of months in month order, for every number p of months in a year.
use Prim.Native.Nat.{ℕ, zero, suc, ◌+◌, ◌-◌, ◌*◌, ◌/◌, ◌%◌, min, ◌<◌, ◌≤◌}
use mathlib.Core.Path.{◌≡◌, refl, ap, ◌∙◌}
use native.Mathlib.Nat.{mod-lt, mod-eq_of_lt, div-eq_of_lt, div-add-mod', mul-add-mod_self_right, mul-add-div_right, mul-le-mul_left, mul-le-mul_right, not-suc-le-zero, add-zero, suc-mul, mul_comm}
use native.Mathlib.Decide.{dec_le}
use native.Mathlib.Omega.{arith}
use Rattle.integers.specs.Sums.{sum_n}
use Rattle.integers.proofs.SumLaws.{sum_n-more, sum_n-upto}
use Rattle.chart.specs.Chart.{Starts, column_of, first_in, in_column, place}
use Rattle.chart.specs.Rearranging.{StandsAt}

-- ---- quotient and remainder of q p + r
pub mod-of : (p q r x : ℕ) → r < p → x ≡ q * p + r → x % p ≡ r
mod-of p q r x l e = rw e (mul-add-mod_self_right q p r ∙ mod-eq_of_lt l)

pub div-of : (p q r x : ℕ) → r < p → x ≡ q * p + r → x / p ≡ q
div-of p q r x l e = rw (e, mul-add-div_right {m = p} (omega arith) q r, div-eq_of_lt l) (add-zero q)

-- 1 where c is below b, else 0
unfoldable step : ℕ → ℕ → ℕ
step c b = min (suc c) b - min c b

step_in : (c b : ℕ) → c < b → step c b ≡ 1
unfolding step
step_in c b h = omega arith

step_out : (c b : ℕ) → b ≤ c → step c b ≡ 0
unfolding step
step_out c b h = omega arith

min-step : (c b : ℕ) → min (suc c) b ≡ min c b + step c b
unfolding step
min-step c b = omega arith

-- ---- one column
module _ (p s : ℕ) (v : Starts p s) where
  pub first_below : (c : ℕ) → first_in p s c < p
  unfolding first_in
  first_below c = mod-lt (c + p - (s - 1)) (omega arith)

  first-later : (c : ℕ) → s - 1 ≤ c → c < p → first_in p s c ≡ c - (s - 1)
  unfolding first_in
  first-later c l h = mod-of p 1 (c - (s - 1)) (c + p - (s - 1)) (omega arith) (omega arith)

  first_sooner : (c : ℕ) → c < s - 1 → first_in p s c ≡ c + p - (s - 1)
  unfolding first_in
  first_sooner c l = mod-of p 0 (c + p - (s - 1)) (c + p - (s - 1)) (omega arith) (omega arith)

  pub column-below : (t : ℕ) → column_of p s t < p
  unfolding column_of
  column-below t = mod-lt (s - 1 + t) (omega arith)

  -- the column and the year of the month that stands y years below the first of column c
  pub column-cell : (c y : ℕ) → c < p → column_of p s (first_in p s c + p * y) ≡ c
  unfolding column_of
  column-cell c y h = by (dec_le (s - 1) c)
    where
      by : Dec (s - 1 ≤ c) → (s - 1 + (first_in p s c + p * y)) % p ≡ c
      by (yes l) = mod-of p y c _ h (omega (arith, first-later c l h, mul_comm p y))
      by (no l) = mod-of p (suc y) c _ h (omega (arith, first_sooner c (omega arith), mul_comm p y, suc-mul y p))

  pub year_cell : (c y : ℕ) → (first_in p s c + p * y) / p ≡ y
  year_cell c y = div-of p y (first_in p s c) _ (first_below c) (omega (arith, mul_comm p y))

  -- and the month that stands there
  pub month-cell : (t : ℕ) → first_in p s (column_of p s t) + p * (t / p) ≡ t
  unfolding column_of
  month-cell t = by (dec_le p (s - 1 + t % p))
    where
      r : t % p < p
      r = mod-lt t (omega arith)

      by : Dec (p ≤ s - 1 + t % p) → first_in p s ((s - 1 + t) % p) + p * (t / p) ≡ t
      by (yes l) =
          let e : (s - 1 + t) % p ≡ s - 1 + t % p - p = mod-of p (suc (t / p)) (s - 1 + t % p - p) _ (omega (arith, r)) (omega (arith, div-add-mod' t p, suc-mul (t / p) p)) in
          rw e (omega (arith, first_sooner (s - 1 + t % p - p) (omega (arith, r)), div-add-mod' t p, mul_comm p (t / p)))
      by (no l) =
          let e : (s - 1 + t) % p ≡ s - 1 + t % p = mod-of p (t / p) (s - 1 + t % p) _ (omega arith) (omega (arith, div-add-mod' t p)) in
          rw e (omega (arith, first-later (s - 1 + t % p) (omega arith) (omega arith), div-add-mod' t p, mul_comm p (t / p)))

  module _ (n : ℕ) where
    -- y years below the first of a column the series has a month, or it has ended
    pub inside : (c y : ℕ) → y < in_column p s n c → first_in p s c + p * y < n
    unfolding in_column
    inside c y l =
        let x = n + p - 1 - first_in p s c in
        omega (arith, first_below c, div-add-mod' x p, mod-lt x {m = p} (omega arith), mul-le-mul_right p l, suc-mul y p, mul_comm p y)

    pub outside : (c y : ℕ) → n ≤ first_in p s c + p * y → in_column p s n c ≤ y
    outside c y l = by (dec_le (suc y) (in_column p s n c))
      where
        by : Dec (suc y ≤ in_column p s n c) → in_column p s n c ≤ y
        by (yes k) = absurd (omega (arith, inside c y k))
        by (no k) = omega arith

    pub ended : (c y : ℕ) → in_column p s n c ≤ y → n ≤ first_in p s c + p * y
    unfolding in_column
    ended c y l =
        let x = n + p - 1 - first_in p s c in
        omega (arith, first_below c, div-add-mod' x p, mod-lt x {m = p} (omega arith), mul-le-mul_right p l, mul_comm p y)

    -- the months in the columns before c: c to each whole row of the chart, and to its last row as many as it has, less the empty places of its first row
    abbrev whole : ℕ
    whole = (s - 1 + n) / p

    abbrev last : ℕ
    last = (s - 1 + n) % p

    -- one column, by whether it stands in the first row and in the last
    one-column : (c : ℕ) → c < p → in_column p s n c + step c (s - 1) ≡ whole + step c last
    unfolding in_column
    one-column c h = by (dec_le (s - 1) c) (dec_le last c)
      where
        m : last < p
        m = mod-lt (s - 1 + n) (omega arith)

        e : whole * p + last ≡ s - 1 + n
        e = div-add-mod' (s - 1 + n) p

        -- a column that the first row has not, and the last neither: there is a row before the last
        rest : (w : ℕ) → whole ≡ w → c < s - 1 → last ≤ c → (n + p - 1 - first_in p s c) / p + 1 ≡ w
        rest zero i a b = absurd (omega (arith, e, ap (λ (x : ℕ). x * p) i))
        rest (suc w) i a b =
            let q = div-of p w (p + last - 1 - c) (n + p - 1 - first_in p s c) (omega (arith, m)) (omega (arith, e, first_sooner c a, suc-mul w p, ap (λ (x : ℕ). x * p) i)) in
            omega arith

        by : Dec (s - 1 ≤ c) → Dec (last ≤ c) → (n + p - 1 - first_in p s c) / p + step c (s - 1) ≡ whole + step c last
        by (yes a) (yes b) =
            let q = div-of p whole (last + p - 1 - c) (n + p - 1 - first_in p s c) (omega (arith, m)) (omega (arith, e, first-later c a h)) in
            rw (q, step_out c (s - 1) a, step_out c last b)
        by (yes a) (no b) =
            let q = div-of p (suc whole) (last - 1 - c) (n + p - 1 - first_in p s c) (omega (arith, m)) (omega (arith, e, first-later c a h, suc-mul whole p)) in
            rw (q, step_out c (s - 1) a, step_in c last (omega arith)) (omega arith)
        by (no a) (yes b) = let q = rest whole refl (omega arith) b in rw (step_in c (s - 1) (omega arith), step_out c last b) (omega arith)
        by (no a) (no b) =
            let q = div-of p whole (last - 1 - c) (n + p - 1 - first_in p s c) (omega (arith, m)) (omega (arith, e, first_sooner c (omega arith))) in
            rw (q, step_in c (s - 1) (omega arith), step_in c last (omega arith))

    pub before_closed : (c : ℕ) → c ≤ p → sum_n c (in_column p s n) + min c (s - 1) ≡ c * whole + min c last
    unfolding sum_n
    before_closed zero h = omega arith
    before_closed (suc c) h = rw (min-step c (s - 1), min-step c last) (omega (arith, before_closed c (omega arith), one-column c h, suc-mul c whole))

    pub all_columns : sum_n p (in_column p s n) ≡ n
    all_columns = omega (arith, before_closed p (omega arith), mod-lt (s - 1 + n) {m = p} (omega arith), div-add-mod' (s - 1 + n) p, mul_comm p whole)

    -- the same as code computes it
    pub before_computed : (c : ℕ) → c ≤ p → c * whole + min c last - min c (s - 1) ≡ sum_n c (in_column p s n)
    before_computed c h = omega (arith, before_closed c h)

    -- ---- places
    -- y years below the first of column c
    pub place-cell : (c y : ℕ) → c < p → place p s n (first_in p s c + p * y) ≡ sum_n c (in_column p s n) + y
    unfolding place
    place-cell c y h = rw (column-cell c y h, year_cell c y)

    -- a month of the series is one of its column's
    pub in-its-column : (t : ℕ) → t < n → t / p < in_column p s n (column_of p s t)
    in-its-column t h = by (dec_le (suc (t / p)) (in_column p s n (column_of p s t)))
      where
        by : Dec (suc (t / p) ≤ in_column p s n (column_of p s t)) → t / p < in_column p s n (column_of p s t)
        by (yes k) = k
        by (no k) = absurd (omega (arith, ended (column_of p s t) (t / p) (omega arith), month-cell t))

    -- the places of a column are places of the file
    pub cell_below : (c y : ℕ) → c < p → y < in_column p s n c → sum_n c (in_column p s n) + y < n
    cell_below c y h l = omega (arith, all_columns, sum_n-more c (in_column p s n), sum_n-upto (c + 1) p (in_column p s n) (omega arith))

    pub place-below : (t : ℕ) → t < n → place p s n t < n
    unfolding place
    place-below t h = cell_below (column_of p s t) (t / p) (column-below t) (in-its-column t h)

    -- earlier columns first, and in a column the older months first
    pub place-column : (t u : ℕ) → t < n → column_of p s t < column_of p s u → place p s n t < place p s n u
    unfolding place
    place-column t u h l =
        let c = column_of p s t in
        omega (arith, in-its-column t h, sum_n-more c (in_column p s n), sum_n-upto (c + 1) (column_of p s u) (in_column p s n) (omega arith))

    pub place-age : (t u : ℕ) → column_of p s t ≡ column_of p s u → t < u → place p s n t < place p s n u
    unfolding place
    place-age t u e l = rw e (by (dec_le (suc (t / p)) (u / p)))
      where
        by : Dec (suc (t / p) ≤ u / p) → sum_n (column_of p s u) (in_column p s n) + t / p < sum_n (column_of p s u) (in_column p s n) + u / p
        by (yes k) = omega arith
        by (no k) =
            let above : u / p ≤ t / p = omega arith in
            absurd (omega (arith, month-cell t, month-cell u, ap (first_in p s) e, mul-le-mul_left p above))

    -- every place is a month's: the columns are searched for it
    search-column : (c : ℕ) → c ≤ p → (i : ℕ) → i < sum_n c (in_column p s n) → StandsAt p s n i
    unfolding sum_n
    search-column zero h i l = absurd (not-suc-le-zero l)
    search-column (suc c) h i l = by (λ k. search-column c (omega arith) i k) (dec_le (sum_n c (in_column p s n)) i)
      where
        by : (i < sum_n c (in_column p s n) → StandsAt p s n i) → Dec (sum_n c (in_column p s n) ≤ i) → StandsAt p s n i
        by sooner (no k) = sooner (omega arith)
        by sooner (yes k) = let y = i - sum_n c (in_column p s n) in record {
          month = first_in p s c + p * y;
          below = inside c y (omega arith);
          there = place-cell c y h ∙ omega arith;
        }

    pub place-onto : (i : ℕ) → i < n → StandsAt p s n i
    place-onto i h = search-column p (omega arith) i (omega (arith, all_columns))

    -- the place as code computes it, and that it is one of n
    pub place_computed : (t c before : ℕ) → t < n → c ≡ column_of p s t → before ≡ sum_n c (in_column p s n)
        → (before + t / p ≡ place p s n t) × (before + t / p < n)
    unfolding place
    place_computed t c before h e b = rw (b, e) (refl, place-below t h)

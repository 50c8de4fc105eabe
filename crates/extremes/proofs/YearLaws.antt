-- Years of any period, their groups and the months that a group serves, in a series of n months.
use Prim.Native.Nat.{ℕ, ◌+◌, ◌*◌, ◌-◌, ◌≤◌, ◌<◌, min, max}
use mathlib.Core.Path.{◌≡◌, refl}
use mathlib.Core.Logic.{◌⊎◌, inl, inr, ◌↔◌}
use native.Mathlib.Nat.{min-le_left, le-div_iff_mul-le, div-lt_iff_lt-mul, div-le_self, mul-le-mul_left, mod-lt}
use native.Mathlib.Decide.{dec_le}
use native.Mathlib.Omega.{arith}
use borrow.Author.Tests.{lt-ltb, le-ltb, lt-leb, le-leb}
use Rattle.refusals.specs.Limits.{most_months}
use Rattle.extremes.specs.Years.{year_of, month_of, years, year_start, centre}
use Rattle.extremes.specs.Promises.{Calendar, served_from}

-- ---- the one place where a period is divided by: a month's year is y or later, if and only if y years are over by then
module _ {start period : ℕ} (y t : ℕ) (early : 1 ≤ start) (late : start ≤ period) where
  by-years : (y ≤ year_of start period t) ↔ (y * period ≤ start - 1 + t)
  unfolding year_of
  by-years = le-div_iff_mul-le (omega arith)

  -- a month of the series stands at the start of year y or after it, if and only if its year is y or later
  pub from_start : (n : ℕ) → t < n → (year_start start period n y ≤ t) ↔ (y ≤ year_of start period t)
  unfolding year_start
  from_start n l = (λ m. by-years.1 (omega arith), λ m. omega (arith, by-years.0 m))

  pub before_start : (n : ℕ) → t < n → (t < year_start start period n y) ↔ (year_of start period t < y)
  unfolding year_start year_of
  before_start n l = let i = div-lt_iff_lt-mul {k = period} {x = start - 1 + t} {y = y} (omega arith) in (λ m. i.1 (omega arith), λ m. omega (arith, i.0 m))

-- b months of the first year are missing; four of five years end within the series
five-years : (period n b y : ℕ) → b < period → period * y + 4 * period < b + n → min n (period * y - b) < min n (period * (y + 5) - b)
five-years period n b y h k = omega arith

-- a year with two years before it and two after uses its own group
pub centre-own : (count c : ℕ) → 2 ≤ c → c + 3 ≤ count → centre count c ≡ c
unfolding centre
centre-own count c l k = omega arith

module _ {start period n : ℕ} (early : 1 ≤ start) (late : start ≤ period) (least : 5 * period ≤ n) where
  pub years-some : 5 ≤ years start period n
  unfolding years
  years-some = omega (arith, (by-years 4 (n - 1) early late).1 (omega arith))

  -- the year whose group is used has two years before it and two after
  pub centre-inside : (y : ℕ) → (2 ≤ centre (years start period n) y) × (centre (years start period n) y + 3 ≤ years start period n)
  unfolding centre
  centre-inside y = omega (arith, years-some)

  -- a group has months
  pub group-range : (c : ℕ) → 2 ≤ c → c + 3 ≤ years start period n → (year_start start period n (c - 2) < year_start start period n (c + 3)) × (year_start start period n (c + 3) ≤ n)
  unfolding year_start years
  group-range c l k =
      let e : c - 2 + 5 ≡ c + 3 = omega arith in
      let m = (by-years (c - 2 + 4) (n - 1) early late).0 (omega arith) in
      (rw e at (five-years period n (start - 1) (c - 2) (omega arith) (omega (arith, m))), min-le_left _ _)

module _ {start period n : ℕ} (s : Calendar start period n) where
  -- how large the numbers of years and months are that the code works with
  pub years-few : years start period n ≤ 2 * most_months
  unfolding years year_of
  years-few = omega (arith, div-le_self (start - 1 + (n - 1)) period, s.least, s.most, s.late)

  pub starts_few : (y : ℕ) → y ≤ years start period n → period * y ≤ 2 * most_months
  unfolding years
  starts_few y h = omega (arith, (by-years (year_of start period (n - 1)) (n - 1) s.early s.late).0 (omega arith), mul-le-mul_left period h, s.least, s.most, s.late)

-- ---- a calendar month is one of the year's
pub month-inside : (start period t : ℕ) → 1 ≤ start → start ≤ period → (1 ≤ month_of start period t) × (month_of start period t ≤ period)
unfolding month_of
month-inside start period t early late = (omega arith, omega (arith, mod-lt (start - 1 + t) {m = period} (omega arith)))

-- ---- the months that a group serves: the first group from the first month on, the last group to the end
module _ {start period n last : ℕ} (s : Calendar start period n) (l : last ≡ years start period n - 3) where
  abbrev from : ℕ → ℕ
  from c = served_from start period n last c

  -- where the months of year c's group start: at month 0, at the end, or with year c
  abbrev ServedStart : ℕ → Type 0
  ServedStart c = ((c ≤ 2) × (from c ≡ 0)) ⊎ (((last < c) × (from c ≡ n)) ⊎ ((2 < c) × (c ≤ last) × (from c ≡ year_start start period n c)))

  start_is : (c : ℕ) → ServedStart c
  unfolding served_from
  start_is c = go (dec_le c 2) (dec_le c last)
    where
      go : Dec (c ≤ 2) → Dec (c ≤ last) → ServedStart c
      go (yes h) k = inl (h, rw (le-leb c 2 h))
      go (no h) (yes k) = let i : 2 < c = omega arith in inr (inr (i, k, rw (lt-leb c 2 i, le-ltb last c k)))
      go (no h) (no k) = let i : 2 < c = omega arith in let j : last < c = omega arith in inr (inl (j, rw (lt-leb c 2 i, lt-ltb last c j)))

  served_most : (c : ℕ) → from c ≤ n
  unfolding year_start
  served_most c = go (start_is c)
    where
      go : ServedStart c → from c ≤ n
      go (inl h) = omega (arith, h.1)
      go (inr (inl h)) = omega (arith, h.1)
      go (inr (inr h)) = omega (arith, h.2)

  -- a month stands there or later, if and only if its year uses the group of year c or of a later one
  served-later : (c t : ℕ) → t < n → (from c ≤ t) ↔ (c ≤ centre (years start period n) (year_of start period t))
  unfolding centre
  served-later c t m = go (start_is c)
    where
      go : ServedStart c → (from c ≤ t) ↔ (c ≤ min (max (year_of start period t) 2) (years start period n - 3))
      go (inl h) = (λ k. omega (arith, h.0, years-some s.early s.late s.least), λ k. omega (arith, h.1))
      go (inr (inl h)) = (λ k. absurd (omega (arith, h.1)), λ k. absurd (omega (arith, h.0)))
      go (inr (inr h)) = let i = from_start c t s.early s.late n m in (λ k. omega (arith, h.0, h.1, i.0 (omega (arith, h.2))), λ k. omega (arith, h.2, i.1 (omega (arith, h.0))))

  pub served_first : from 2 ≡ 0
  unfolding served_from
  served_first = refl

  pub served_end : from (last + 1) ≡ n
  unfolding served_from
  served_end = rw (lt-leb (last + 1) 2 (omega (arith, years-some s.early s.late s.least)), lt-ltb last (last + 1) (omega arith))

  pub served_order : (c : ℕ) → (from c ≤ from (c + 1)) × (from (c + 1) ≤ n)
  served_order c = (go (dec_le (from c) (from (c + 1))), served_most (c + 1))
    where
      go : Dec (from c ≤ from (c + 1)) → from c ≤ from (c + 1)
      go (yes h) = h
      go (no h) = let m : from (c + 1) < n = omega (arith, served_most c) in
          absurd (omega (arith, h, (served-later c (from (c + 1)) m).1 (omega (arith, (served-later (c + 1) (from (c + 1)) m).0 (omega arith)))))

  -- the months from there to below the next group's are in years that use this group
  pub served_by : (c t : ℕ) → from c ≤ t → t < from (c + 1) → centre (years start period n) (year_of start period t) ≡ c
  served_by c t i j = go (dec_le (c + 1) (centre (years start period n) (year_of start period t)))
    where
      m : t < n
      m = omega (arith, served_most (c + 1))

      go : Dec (c + 1 ≤ centre (years start period n) (year_of start period t)) → centre (years start period n) (year_of start period t) ≡ c
      go (yes h) = absurd (omega (arith, (served-later (c + 1) t m).1 h))
      go (no h) = omega (arith, h, (served-later c t m).0 i)

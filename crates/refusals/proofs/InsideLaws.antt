-- What the tests of the limits say, and when they hold.
use Prim.Native.Nat.{ℕ, ◌+◌, ◌-◌, ◌/◌, ◌<◌, ◌≤◌}
use mathlib.Core.Path.{◌≡◌, refl}
use mathlib.Core.Bool.{Bool, true, false, not, ◌&&◌}
use native.Mathlib.Decide.{dec_le}
use native.Mathlib.Omega.{arith}
use borrow.Author.Tests.{le-ltb, lt-ltb, le-leb, lt-leb, leb-true, leb-false}
use lib.Dec.{leb, ltb}
use lib.IntN.{ℤ, nat_abs}
use Rattle.refusals.specs.Limits.{months_of_year, most_months, largest_figure, full_weight, earliest_year, latest_year}
use Rattle.refusals.specs.Inside.{start_inside, figure_inside, weight_inside, last_year, year_inside, years_inside}

-- above is not at most
pub above : (a n : ℕ) → ltb a n ≡ not (leb n a)
above a n = by (leb n a) refl
  where
    by : (b : Bool) → leb n a ≡ b → ltb a n ≡ not (leb n a)
    by true e = rw (e, le-ltb a n (leb-true n a e))
    by false e = rw (e, lt-ltb a n (leb-false n a e))

pub both : (a b : Bool) → (a && b) ≡ true → (a ≡ true) × (b ≡ true)
both true b e = (refl, e)
both false b e = (e, cc)

pub start-inside : (start : ℕ) → start_inside start ≡ true → (1 ≤ start) × (start ≤ months_of_year)
unfolding start_inside
start-inside start e =
    let h = both (leb 1 start) (leb start months_of_year) e in
    (leb-true 1 start h.0, leb-true start months_of_year h.1)

pub figure-inside : (figure : ℤ) → figure_inside figure ≡ true → nat_abs figure ≤ largest_figure
unfolding figure_inside
figure-inside figure e = leb-true (nat_abs figure) largest_figure e

pub weight-inside : (weight : ℕ) → weight_inside weight ≡ true → weight ≤ full_weight
unfolding weight_inside
weight-inside weight e = leb-true weight full_weight e

-- ---- years: the first below the limits; or else the last above them
module _ (first_year start n : ℕ) where
  last-after : first_year ≤ last_year first_year start n
  unfolding last_year
  last-after = omega arith

  pub years-before : first_year < earliest_year → true ≡ not (years_inside first_year start n)
  unfolding years_inside year_inside
  years-before h = rw (lt-leb earliest_year first_year h)

  pub years-after : (last : ℕ) → last ≡ last_year first_year start n → earliest_year ≤ first_year → ltb latest_year last ≡ not (years_inside first_year start n)
  unfolding years_inside year_inside
  years-after last e h = rw (← e) (by (dec_le last latest_year) (leb first_year latest_year) refl)
    where
      by : Dec (last ≤ latest_year) → (b : Bool) → leb first_year latest_year ≡ b
          → ltb latest_year last ≡ not ((leb earliest_year first_year && leb first_year latest_year) && (leb earliest_year last && leb last latest_year))
      by (yes k) b q =
          rw (le-ltb latest_year last k, le-leb earliest_year first_year h, le-leb first_year latest_year (omega (arith, last-after, e)), le-leb earliest_year last (omega (arith, last-after, e)), le-leb last latest_year k)
      by (no k) true q = rw (lt-ltb latest_year last (omega arith), le-leb earliest_year first_year h, q, le-leb earliest_year last (omega (arith, last-after, e)), lt-leb last latest_year (omega arith))
      by (no k) false q = rw (lt-ltb latest_year last (omega arith), le-leb earliest_year first_year h, q)

  pub first-inside : years_inside first_year start n ≡ true → first_year ≤ latest_year
  unfolding years_inside year_inside
  first-inside e = leb-true first_year latest_year (both (leb earliest_year first_year) (leb first_year latest_year) (both (leb earliest_year first_year && leb first_year latest_year) _ e).0).1

-- a series from year 1 on stays inside, however long
pub from-year-one : (start n : ℕ) → start ≤ months_of_year → n ≤ most_months → years_inside earliest_year start n ≡ true
unfolding years_inside year_inside last_year
from-year-one start n h l =
    rw (le-leb earliest_year (earliest_year + (start - 1 + n - 1) / months_of_year) (omega arith), le-leb (earliest_year + (start - 1 + n - 1) / months_of_year) latest_year (omega arith))

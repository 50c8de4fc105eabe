-- The months of a group: those of METHOD 5.2 and of its examples, and never none; and a part of a series has the same calendar years (METHOD 3.8).
use Prim.Native.Nat.{ℕ, ◌+◌, ◌*◌, ◌-◌, ◌/◌, ◌%◌, ◌≤◌, ◌<◌}
use mathlib.Core.Path.{◌≡◌, refl, ap}
use mathlib.Core.Logic.{◌↔◌}
use mathlib.Core.List.{List}
use native.Mathlib.Nat.{div-add-mod, mul-add-div}
use native.Mathlib.Omega.{arith}
use lib.ListN.{length}
use Rattle.integers.specs.Lists.{tab_from, tab}
use Rattle.extremes.specs.Years.{year_of, month_of, years, year_start, months, group_around, centre, group, SameYears, BegunYears, FewestYears}
use Rattle.extremes.proofs.YearLaws.{from_start, before_start, centre-inside, group-range}
use Rattle.extremes.proofs.SpreadLaws.{length-months}

-- a month t of the series stands between the two starts that `group_around` takes, if and only if its year is year c, one of the two before or one
-- of the two after
pub group-words : (start period n c t : ℕ) → 1 ≤ start → start ≤ period → 2 ≤ c → t < n
    → (year_start start period n (c - 2) ≤ t × t < year_start start period n (c + 3)) ↔ (c ≤ year_of start period t + 2 × year_of start period t ≤ c + 2)
group-words start period n c t h k l m = let a = from_start (c - 2) t h k n m in let b = before_start (c + 3) t h k n m in
    (λ w. omega (arith, a.0 w.0, b.0 w.1), λ w. (a.1 (omega arith), b.1 (omega arith)))

-- the months from k on keep their calendar years
pub same-years : {start period : ℕ} → 1 ≤ start → start ≤ period → SameYears start period
unfolding year_of month_of
same-years {start} {period} h l = record {
  from = λ k t.
      let a = start - 1 + k in
      let e : start - 1 + (k + t) ≡ period * (a / period) + (a % period + 1 - 1 + t) = omega (arith, div-add-mod a period) in
      rw e (mul-add-div (omega arith) (a / period) _);
}

-- 114 months from start month 10, by computation
pub begun-years : BegunYears
unfolding tab_from tab year_of years year_start months group_around centre group
begun-years = record { eleven = refl; first_months = refl; lengths = refl }

-- SI1 of 72 months
pub fewest-years : FewestYears
unfolding tab_from tab year_of month_of years year_start months group_around centre group
fewest-years = record { from_january = refl; six = refl; six_groups = refl; from_july = refl; five = refl; one_group = refl }

-- the group that a year uses, in a list of n sizes; it has months
module _ (l : List ℕ) (start period : ℕ) {n : ℕ} (e : length l ≡ n) where
  pub group_at : (y : ℕ) → let c = centre (years start period n) y in group start period l y ≡ months (year_start start period n (c - 2)) (year_start start period n (c + 3)) l
  unfolding group group_around
  group_at y = rw e

  pub group-some : 1 ≤ start → start ≤ period → 5 * period ≤ n → (y : ℕ) → 0 < length (group start period l y)
  group-some early late least y =
      let c = centre (years start period n) y in let i = centre-inside early late least y in let r = group-range early late least c i.0 i.1 in
      omega (arith, r, ap length (group_at y), length-months l (year_start start period n (c - 2)) (year_start start period n (c + 3)) (omega (arith, r)))

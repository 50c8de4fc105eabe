-- The months of a group, its spreads, and the weights of the months that it serves.
use Prim.Native.Nat.{ℕ, ◌+◌, ◌-◌, ◌≤◌, ◌<◌}
use mathlib.Core.Path.{◌≡◌, sym, ap, ◌∙◌}
use mathlib.Core.List.{List}
use native.Mathlib.Omega.{arith}
use lib.ListN.{length}
use Rattle.integers.specs.Filling.{Filled}
use Rattle.integers.proofs.FillingLaws.{filled_on}
use Rattle.extremes.specs.Years.{year_of, years, year_start, months, group_around, centre, group}
use Rattle.extremes.specs.Spreads.{spread, limit_of, remaining, second_spread}
use Rattle.extremes.specs.Weighing.{weight_by, month_weight}
use Rattle.extremes.specs.Promises.{largest_size, AllBelow, Calendar, served_from}
use Rattle.extremes.proofs.YearLaws.{centre-own, group-range, served_order, served_by}
use Rattle.extremes.proofs.SpreadLaws.{months-below, spread-most, kept_most}
use Rattle.extremes.proofs.GroupMonths.{group_at, group-some}
use Rattle.extremes.proofs.NoGroupEmptied.{smallest_stays}

-- ---- the group of a year, in a list of n sizes
module _ (l : List ℕ) {start period n : ℕ} (e : length l ≡ n) (s : Calendar start period n) where
  pub second_most : AllBelow largest_size l → (y : ℕ) → second_spread (group start period l y) ≤ largest_size
  unfolding second_spread remaining
  second_most h y = let g = group start period l y in let c = centre (years start period n) y in
      kept_most (limit_of g) largest_size g (rw (group_at l start period e y) (months-below (year_start start period n (c - 2)) (year_start start period n (c + 3)) h))

  -- ---- the months that the group of year c serves
  module _ {last : ℕ} (m : last ≡ years start period n - 3) (c : ℕ) (i : 2 ≤ c) (j : c ≤ last) where
    abbrev from : ℕ → ℕ
    from y = served_from start period n last y

    -- their years use this group
    served-group : (k : ℕ) → from c ≤ k → k < from (c + 1) → group start period l c ≡ group start period l (year_of start period k)
    unfolding group
    served-group k g h = rw e (ap (group_around start period l) (centre-own _ c i (omega arith) ∙ sym (served_by s m c k g h)))

    -- their weights, after those of the groups before
    pub group-filled : {σ lo hi : ℕ} {a b d : List ℕ} → σ ≡ second_spread (group start period l c) → lo ≡ from c → hi ≡ from (c + 1)
        → Filled 0 (month_weight start period l) 0 (from c) a b → Filled 0 (weight_by σ l) lo hi b d → Filled 0 (month_weight start period l) 0 (from (c + 1)) a d
    unfolding month_weight
    group-filled f u v p q =
        filled_on p (rw (u, v) at q) (omega arith) (served_order s m c).0 (λ k g h. ap (λ (r : ℕ). weight_by r l k) (f ∙ ap second_spread (served-group k g h)))

-- ---- the group of year c and its spreads, as the code finds them
pub record GroupFound (start period c : ℕ) (l : List ℕ) (lo hi : ℕ) : Type 0 where
  pub order : lo < hi
  pub inside : hi ≤ length l
  pub first_most : spread (months lo hi l) ≤ largest_size
  pub stays : 0 < length (remaining (months lo hi l))
  pub second : second_spread (months lo hi l) ≡ second_spread (group start period l c)

pub group-found : {l : List ℕ} {start period n c lo hi : ℕ} → length l ≡ n → Calendar start period n → AllBelow largest_size l → 2 ≤ c → c + 3 ≤ years start period n
    → lo ≡ year_start start period n (c - 2) → hi ≡ year_start start period n (c + 3) → GroupFound start period c l lo hi
group-found {l} {start} {period} {n} {c} {lo} {hi} e s small i j u v = record {
  order = ends.0;
  inside = omega (arith, ends, e);
  first_most = spread-most largest_size _ (months-below lo hi small);
  stays = rw same (smallest_stays _ (group-some l start period e s.early s.late s.least c)).some;
  second = ap second_spread same;
}
  where
    ends : (lo < hi) × (hi ≤ n)
    ends = omega (arith, group-range s.early s.late s.least c i j)

    same : months lo hi l ≡ group start period l c
    same = let e = group_at l start period e c in let o = centre-own _ c i j in cc

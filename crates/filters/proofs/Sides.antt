-- METHOD 2.3 and 2.4: no place is short on both sides.
use mathlib.Core.Path.{◌≡◌, subst}
use Prim.Native.Nat.{ℕ, ◌+◌, ◌*◌, ◌-◌, ◌/◌, ◌≤◌, min, max}
use native.Mathlib.Nat.{le-div_iff_mul-le}
use native.Mathlib.Decide.{dec_le}
use native.Mathlib.Omega.{arith}
use Rattle.refusals.specs.Limits.{least_months}
use Rattle.rows.specs.declared.Terms.{Terms}
use Rattle.rows.specs.declared.Terms.TheVariants.{Nine, Thirteen, TwentyThree}
use Rattle.rows.specs.FilterTables.{table_seasonal, table_henderson}
use Rattle.filters.specs.Filter.{earlier, later, reach}
use Rattle.rows.specs.Table.{row_for}
use Rattle.filters.specs.Sides.{OneSideFull, EnoughMonths, OwnRow, NoPlaceShort}

-- d months before a place and e after it, which with its own are enough for `side` values twice: where fewer than `side` lie within d, they lie within e
one_side : (d e step side : ℕ) → 1 ≤ step → 2 * (side * step) ≤ d + e + 1 → max (min (d / step) side) (min (e / step) side) ≡ side
one_side d e step side s h = go (dec_le (side * step) d)
  where
    go : Dec (side * step ≤ d) → max (min (d / step) side) (min (e / step) side) ≡ side
    go (yes l) = let k : side ≤ d / step = (le-div_iff_mul-le s).1 l in omega arith
    go (no l) =
        let m : side * step ≤ e = omega arith in
        let k : side ≤ e / step = (le-div_iff_mul-le s).1 m in
        omega arith

pub enough-months : EnoughMonths
unfolding earlier later reach
enough-months F first past s h = record { each = λ t i j. one_side _ _ F.step F.side s (omega arith) }

pub own_row : OwnRow
unfolding row_for
own_row F b a c d s h k e =
    let r : b * 1 + (F.side - a) ≡ c * 1 + (F.side - d) = subst (λ (m : ℕ). b * m + (F.side - a) ≡ c * m + (F.side - d)) s e in
    (omega arith, omega arith)

of_trend : (n : ℕ) → least_months ≤ n → (terms : Terms) → OneSideFull (table_henderson terms) 0 n
unfolding table_henderson reach
of_trend n h Nine = enough-months _ _ _ (omega arith) (omega arith)
of_trend n h Thirteen = enough-months _ _ _ (omega arith) (omega arith)
of_trend n h TwentyThree = enough-months _ _ _ (omega arith) (omega arith)

pub no-place-short : NoPlaceShort
unfolding table_seasonal reach
no-place-short n h = record {
  si1 = enough-months _ _ _ (omega arith) (omega arith);
  si2_by_3x3 = enough-months _ _ _ (omega arith) (omega arith);
  si2_by_3x5 = enough-months _ _ _ (omega arith) (omega arith);
  trend = of_trend n h;
}

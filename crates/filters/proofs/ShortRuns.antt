-- 3×9 of fewer than ten years: no place has the full row, so that its denominator does not matter.
use mathlib.Core.Path.{◌≡◌, refl}
use mathlib.Core.List.{List}
use Prim.Native.Nat.{ℕ, ◌+◌, ◌*◌, ◌-◌, ◌/◌, ◌≤◌, ◌<◌, min}
use native.Mathlib.Omega.{arith}
use lib.IntN.{ℤ}
use borrow.Author.Tests.{ne_eqb}
use Rattle.rows.specs.declared.SeasonalFilter.TheVariants.{ThreeByNine}
use Rattle.rows.specs.Table.{Table, row_for, middle_row, row_count, row_weight, denominator}
use Rattle.rows.specs.Stored.{Readable}
use Rattle.rows.specs.MeanRows.{rows3x9}
use Rattle.rows.specs.FilterTables.{table_seasonal, over_seasonal}
use Rattle.integers.specs.Sums.{sum_n}
use Rattle.filters.specs.Filter.{weighted_sum, by_row, earlier, later, value_at}
use Rattle.filters.proofs.ByMonth.{steps_fit}
use Rattle.filters.proofs.Stored.{readable}

-- its rows, all over one number
abbrev pub short3x9 : Table
short3x9 = record { side = 5; row_step = 6; step = 12; width = 11; rows = rows3x9; middle = over_seasonal; ends = over_seasonal }

pub short_readable : Readable short3x9
unfolding middle_row row_count row_weight denominator sum_n
short_readable = readable short3x9 over_seasonal tt

-- with five values before and five after, ten years and a month are there
full-row : (b a d e : ℕ) → b ≤ 5 → a ≤ 5 → b * 12 ≤ d → a * 12 ≤ e → d + e < 120 → b * 6 + (5 - a) ≡ 30 → ⊥
full-row b a d e i j k l m f = omega arith

min-most : (d s : ℕ) → min d s ≤ s
min-most d s = omega arith

months-most : (first past t : ℕ) → past - first < 120 → first ≤ t → t < past → t - first + (past - 1 - t) < 120
months-most first past t h l m = omega arith

pub not_full : (first past t : ℕ) → past - first < 120 → first ≤ t → t < past → min ((t - first) / 12) 5 * 6 + (5 - min ((past - 1 - t) / 12) 5) ≡ 30 → ⊥
not_full first past t h l m e =
    full-row (min ((t - first) / 12) 5) (min ((past - 1 - t) / 12) 5) (t - first) (past - 1 - t) (min-most ((t - first) / 12) 5) (min-most ((past - 1 - t) / 12) 5)
    (steps_fit (t - first) 12 5) (steps_fit (past - 1 - t) 12 5) (months-most first past t h l m) e

pub short_value : (first past : ℕ) (x : List ℤ) (t : ℕ) → past - first < 120 → first ≤ t → t < past
    → value_at short3x9 first past x t ≡ value_at (table_seasonal ThreeByNine) first past x t
unfolding table_seasonal value_at by_row earlier later weighted_sum row_for middle_row row_weight denominator
short_value first past x t h l m = rw (ne_eqb _ 30 (not_full first past t h l m)) refl

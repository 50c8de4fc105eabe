-- METHOD 2.1: one filter for every table of rows, rounded, and exact (METHOD 6.1). t counts the places of the list that is filtered: of a series or a
-- slice of n entries these are its months; a list of SI1 or R1 has month 6 at place 0 (steps/ByMonth says these by month).
use Rattle.std.specs.Prelude.{List, ℕ, ◌+◌, ◌*◌, ◌-◌, ◌/◌, min, length, ℤ, pos, ◌*ℤ◌}
use Rattle.integers.specs.Lists.{◌‼◌, tab}
use Rattle.integers.specs.Rounding.{to_grain}
use Rattle.integers.specs.Sums.{wsum}
use Rattle.rows.specs.Table.{Table, row_for, row_weight, denominator}

-- the sum of w k * x (from + k * step) over k < m
unfoldable pub dot : ℕ → (ℕ → ℤ) → List ℤ → ℕ → ℕ → ℤ
dot m w x from step = wsum m w (λ k. x ‼ (from + k * step))

-- METHOD 2.1 and 2.3: the weighted sum of month t by the row for b values before it and a after it. These values stand one step apart, the first b
-- steps before t, the last a steps after it; of a seasonal filter a step is twelve months
unfoldable pub weighted_sum : Table → ℕ → ℕ → List ℤ → ℕ → ℤ
weighted_sum F b a x t = dot (b + 1 + a) (row_weight F (row_for F b a)) x (t - b * F.step) F.step

-- METHOD 2.1 and 1.3: that sum over the row's denominator, rounded once to a grain
unfoldable pub by_row : Table → ℕ → ℕ → List ℤ → ℕ → ℤ
by_row F b a x t = to_grain (weighted_sum F b a x t) (denominator F (row_for F b a))

-- METHOD 6.1: as a whole number over L times the denominator of the values. L is a multiple of the denominators of the rows (24; 748,440 is 27,720
-- times 27 and 12,474 times 60; 46,189,000,000 is 19,000,000 times 2,431, 2,750,000 times 16,796 and 46,189 times 1,000,000), so that nothing is
-- rounded or cut
unfoldable pub exact_by_row : Table → ℕ → ℕ → ℕ → List ℤ → ℕ → ℤ
exact_by_row F L b a x t = pos (L / denominator F (row_for F b a)) *ℤ weighted_sum F b a x t

-- METHOD 2.1 and 2.3: of values that stand at the months from `first` to below `past` and nowhere else, how many precede month t and how many follow
-- it, one step apart, as far as a row can take them. A place of 3×9 may be short on both sides: it has a row for each pair of counts. No other filter
-- has such a place (Sides, NoPlaceShort): of a run of six values, which 72 months give, each has three on one side, enough for 3×5; SI1 has runs of
-- five at least, whose places have two on one side, enough for 3×3; Henderson's 23 terms ask for 22 months
unfoldable pub earlier : Table → ℕ → ℕ → ℕ
earlier F first t = min ((t - first) / F.step) F.side

unfoldable pub later : Table → ℕ → ℕ → ℕ
later F past t = min ((past - 1 - t) / F.step) F.side

-- the filter of such values at month t
unfoldable pub value_at : Table → ℕ → ℕ → List ℤ → ℕ → ℤ
value_at F first past x t = by_row F (earlier F first t) (later F past t) x t

unfoldable pub exact_at : Table → ℕ → ℕ → ℕ → List ℤ → ℕ → ℤ
exact_at F L first past x t = exact_by_row F L (earlier F first t) (later F past t) x t

-- the filter at every place of a list
unfoldable pub filter : Table → List ℤ → List ℤ
filter F x = tab (length x) (value_at F 0 (length x) x)

unfoldable pub exact : Table → ℕ → List ℤ → List ℤ
exact F L x = tab (length x) (exact_at F L 0 (length x) x)

-- METHOD 2.2: the filter at the places with `side` values on each side only: place 0 of the result is the first of these
unfoldable pub reach : Table → ℕ
reach F = F.side * F.step

unfoldable pub inside : Table → List ℤ → List ℤ
inside F x = tab (length x - 2 * reach F) (λ i. value_at F 0 (length x) x (i + reach F))

unfoldable pub exact_inside : Table → ℕ → List ℤ → List ℤ
exact_inside F L x = tab (length x - 2 * reach F) (λ i. exact_at F L 0 (length x) x (i + reach F))

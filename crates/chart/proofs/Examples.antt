-- METHOD 7.6 on small series, computed.
use mathlib.Core.Path.{◌≡◌, refl}
use mathlib.Core.List.{[], ◌∷◌}
use Rattle.integers.specs.Lists.{tab_from, tab}
use Rattle.integers.specs.Sums.{sum_n}
use Rattle.chart.specs.Chart.{column_of, first_in, in_column, place, column, next_columns, month_order, order_of_t}

-- 15 months from March: the two Marches, 0 and 12, come after January (10) and February (11)
from_march : month_order 0 12 3 (tab 15 (λ t. t)) ≡ 10 ∷ 11 ∷ 0 ∷ 12 ∷ 1 ∷ 13 ∷ 2 ∷ 14 ∷ 3 ∷ 4 ∷ 5 ∷ 6 ∷ 7 ∷ 8 ∷ 9 ∷ []
unfolding month_order next_columns column in_column first_in tab tab_from
from_march = refl

-- 7 quarters from the second
from_second : month_order 0 4 2 (tab 7 (λ t. t)) ≡ 3 ∷ 0 ∷ 4 ∷ 1 ∷ 5 ∷ 2 ∷ 6 ∷ []
unfolding month_order next_columns column in_column first_in tab tab_from
from_second = refl

places_from_second : tab 7 (place 4 2 7) ≡ 1 ∷ 3 ∷ 5 ∷ 0 ∷ 2 ∷ 4 ∷ 6 ∷ []
unfolding place column_of in_column first_in sum_n tab tab_from
places_from_second = refl

-- 9 quarters from the fourth
from_fourth : month_order 0 4 4 (tab 9 (λ t. t)) ≡ 1 ∷ 5 ∷ 2 ∷ 6 ∷ 3 ∷ 7 ∷ 0 ∷ 4 ∷ 8 ∷ []
unfolding month_order next_columns column in_column first_in tab tab_from
from_fourth = refl

back_from_fourth : order_of_t 0 4 4 (1 ∷ 5 ∷ 2 ∷ 6 ∷ 3 ∷ 7 ∷ 0 ∷ 4 ∷ 8 ∷ []) ≡ tab 9 (λ t. t)
unfolding order_of_t place column_of in_column first_in sum_n tab tab_from
back_from_fourth = refl

-- METHOD 7.6: 75 months from March: the second April, and the last December
second_april : (place 12 3 75 13 ≡ 20) × (place 12 3 75 69 ≡ 74)
unfolding place column_of in_column first_in sum_n
second_april = (refl, refl)

-- 72 months from October: the first January stands first, the first October after nine columns of six
from_october : (place 12 10 72 3 ≡ 0) × (place 12 10 72 0 ≡ 54)
unfolding place column_of in_column first_in sum_n
from_october = (refl, refl)

-- How long a filtered series is.
use mathlib.Core.Path.{◌≡◌}
use mathlib.Core.List.{List}
use lib.ListN.{length}
use lib.IntN.{ℤ}
use Rattle.integers.proofs.FillingLaws.{length-tab}
use Rattle.rows.specs.Table.{Table}
use Rattle.filters.specs.Filter.{value_at, filter}

pub length-filter : (F : Table) (x : List ℤ) → length (filter F x) ≡ length x
unfolding filter
length-filter F x = length-tab (length x) (value_at F 0 (length x) x)

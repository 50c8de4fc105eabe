-- METHOD 7.6 and 7.9: the places are those of month order, and it loses nothing, for every number of months in a year, start month and count. Shown in
-- proofs/Rearranging.antt: places, in_order, nothing_lost.
use Rattle.std.specs.Prelude.{ℕ, ◌<◌, ◌≡◌, List, length, get_or}
use Rattle.chart.specs.Chart.{Starts, column_of, place, month_order, order_of_t}

-- a month that stands at place i
pub record StandsAt (p s n i : ℕ) : Type 0 where
  pub month : ℕ
  pub below : month < n
  pub there : place p s n month ≡ i

-- the n places are those of the n months: each month has one of them, no two have the same, and none is left over
pub record OneForEach (p s n : ℕ) : Type 0 where
  pub inside : (t : ℕ) → t < n → place p s n t < n
  pub apart : (t u : ℕ) → t < n → u < n → place p s n t ≡ place p s n u → t ≡ u
  pub every : (i : ℕ) → i < n → StandsAt p s n i

abbrev pub Places : Type 0
Places = (p s n : ℕ) → Starts p s → OneForEach p s n

-- they are in month order: a month of an earlier column stands before every month of a later one, and in a column the older before the newer
pub record Ordered (p s n : ℕ) : Type 0 where
  pub by_column : (t u : ℕ) → t < n → u < n → column_of p s t < column_of p s u → place p s n t < place p s n u
  pub by_age : (t u : ℕ) → t < n → u < n → column_of p s t ≡ column_of p s u → t < u → place p s n t < place p s n u

abbrev pub InOrder : Type 0
InOrder = (p s n : ℕ) → Starts p s → Ordered p s n

-- values of any kind: in month order the value of month t stands at its place; there and back, and back and there, they are as they were
pub record Kept {A : Type 0} (d : A) (p s : ℕ) (xs : List A) : Type 0 where
  pub at_place : (t : ℕ) → t < length xs → get_or (month_order d p s xs) (place p s (length xs) t) d ≡ get_or xs t d
  pub back : order_of_t d p s (month_order d p s xs) ≡ xs
  pub again : month_order d p s (order_of_t d p s xs) ≡ xs

abbrev pub NothingLost : Type 1
NothingLost = (A : Type 0) (d : A) (p s : ℕ) (xs : List A) → Starts p s → Kept d p s xs

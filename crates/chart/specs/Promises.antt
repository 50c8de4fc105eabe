-- What the code asks and promises.
use Rattle.std.specs.Prelude.{ℕ, ◌+◌, ◌<◌, ◌≤◌, ◌≡◌}
use Rattle.chart.specs.Chart.{Starts, place}

-- what a file can hold: the months of a year in 1 byte, the count in 2; and no column is empty
pub record Charted (p s n : ℕ) : Type 0 where
  pub starts : Starts p s
  pub period : p ≤ 255
  pub count : n ≤ 65535
  pub full : p ≤ n

-- month r stands after month t in month order, where t is not the last there
pub record Follows (p s n t r : ℕ) : Type 0 where
  pub inside : r < n
  pub after : place p s n t + 1 < n → place p s n r ≡ place p s n t + 1

-- month t, one of n, stands at place i
pub record Stands (p s n i t : ℕ) : Type 0 where
  pub inside : t < n
  pub here : place p s n t ≡ i

-- how far going on in month order has come: at place i month t stands, while there is one
pub record Reached (p s n i t : ℕ) : Type 0 where
  pub inside : t < n
  pub here : i < n → place p s n t ≡ i

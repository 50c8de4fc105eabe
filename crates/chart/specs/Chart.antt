-- METHOD 7.6: month order. The wall chart has a row for each year and a column for each of the p months of a year; a series that starts in month s
-- (1 to p) fills it row by row. Columns count from 0, which is January; months t and places in month order count from 0. (`tab k f` is the list of f at 0 to
-- k - 1, `sum_n k f` their sum, `get_or xs i d` the entry of a list at place i.)
use Rattle.std.specs.Prelude.{ℕ, zero, suc, ◌+◌, ◌-◌, ◌*◌, ◌/◌, ◌%◌, ◌≤◌, List, [], ◌++◌, length, get_or}
use Rattle.integers.specs.Lists.{tab}
use Rattle.integers.specs.Sums.{sum_n}

-- the start month is one of the p
pub record Starts (p s : ℕ) : Type 0 where
  pub least : 1 ≤ s
  pub most : s ≤ p

-- METHOD 7.6: the column of month t
unfoldable pub column_of : ℕ → ℕ → ℕ → ℕ
column_of p s t = (s - 1 + t) % p

-- METHOD 7.6: the first month of column c; the others follow p months after one another (p is added so that nothing is taken from less)
unfoldable pub first_in : ℕ → ℕ → ℕ → ℕ
first_in p s c = (c + p - (s - 1)) % p

-- METHOD 7.6: how many of n months stand in column c: n less its first month, divided by p and rounded up
unfoldable pub in_column : ℕ → ℕ → ℕ → ℕ → ℕ
in_column p s n c = (n + p - 1 - first_in p s c) / p

-- METHOD 7.6: the place of month t, one of n: all months of the columns before its own, and those of its own before it, one for each p months
-- before t
unfoldable pub place : ℕ → ℕ → ℕ → ℕ → ℕ
place p s n t = sum_n (column_of p s t) (in_column p s n) + t / p

-- METHOD 7.6, the same in whole columns: column c of a series, oldest first; d is what `get_or` gives past the end
unfoldable pub column : {A : Type 0} → A → ℕ → ℕ → List A → ℕ → List A
column d p s xs c = tab (in_column p s (length xs) c) (λ y. get_or xs (first_in p s c + p * y) d)

-- k columns one after the other, the first of them column c
unfoldable pub next_columns : {A : Type 0} → A → ℕ → ℕ → List A → ℕ → ℕ → List A
next_columns d p s xs c zero = []
next_columns d p s xs c (suc k) = column d p s xs c ++ next_columns d p s xs (suc c) k

-- METHOD 7.6: a series put into month order: all p columns, January's first
unfoldable pub month_order : {A : Type 0} → A → ℕ → ℕ → List A → List A
month_order d p s xs = next_columns d p s xs 0 p

-- METHOD 7.6: values in month order put back into order of t: that of month t stands at its place
unfoldable pub order_of_t : {A : Type 0} → A → ℕ → ℕ → List A → List A
order_of_t d p s xs = tab (length xs) (λ t. get_or xs (place p s (length xs) t) d)

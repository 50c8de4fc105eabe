-- What the steps do with a series beside filtering it. A series is a list, oldest month first.
use Rattle.std.specs.Prelude.{List, [], ◌∷◌, ℕ, ◌+◌, ◌-◌, length, ℤ, pos, nat_abs, ◌-ℤ◌, ◌*ℤ◌}
use Rattle.integers.specs.Lists.{◌‼◌, tab}
use Rattle.integers.specs.Sums.{sum_n}

-- METHOD 1.3: a difference of tables, which needs no rounding
unfoldable pub minus : List ℤ → List ℤ → List ℤ
minus x y = tab (length x) (λ t. (x ‼ t) -ℤ (y ‼ t))

-- each number m times; the same numbers over a denominator m times as large
unfoldable pub times : ℕ → List ℤ → List ℤ
times m [] = []
times m (z ∷ zs) = (pos m *ℤ z) ∷ times m zs

-- a series put together from the places g 0, g 1, .. of another: for values that are repeated or copied (METHOD 3.4, 3.7)
unfoldable pub pick : ℕ → (ℕ → ℕ) → List ℤ → List ℤ
pick n g x = tab n (λ t. x ‼ g t)

-- METHOD 4.5 and 4.6: the change of a series over `span` months into month t, without its sign; and the sum of `count` of them, into the months from
-- `first` on
abbrev pub change_into : List ℤ → ℕ → ℕ → ℕ
change_into x span t = nat_abs ((x ‼ t) -ℤ (x ‼ (t - span)))

unfoldable pub changes : List ℤ → ℕ → ℕ → ℕ → ℕ
changes x span first count = sum_n count (λ i. change_into x span (first + i))

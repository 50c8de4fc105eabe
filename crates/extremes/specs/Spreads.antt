-- METHOD 5.3 and 5.4: sizes in whole units, both spreads of a group, and dropping.
use Rattle.std.specs.Prelude.{ℕ, ◌+◌, ◌*◌, ◌/◌, cond, List, [], ◌∷◌, ltb, length, ℤ, nat_abs}
use Rattle.integers.specs.Lists.{◌‼◌, tab}
use Rattle.integers.specs.Root.{root}
use Rattle.integers.specs.Rounding.{away_from_zero}
use Rattle.refusals.specs.Limits.{unit}

-- METHOD 5.3: a month's irregular, rounded to whole units (1.4; DECISIONS 1), without its sign; and the sizes of all months
unfoldable pub size_of : ℤ → ℕ
size_of z = nat_abs (away_from_zero z unit)

unfoldable pub sizes_of : List ℤ → List ℕ
sizes_of x = tab (length x) (λ t. size_of (x ‼ t))

-- the squares of the sizes, summed
unfoldable pub squares : List ℕ → ℕ
squares [] = 0
squares (a ∷ g) = a * a + squares g

-- METHOD 5.4: a spread. The mean of the squares is cut to a whole number, and so is its root (5.5)
unfoldable pub spread : List ℕ → ℕ
spread g = root (squares g / length g)

-- METHOD 5.4, dropping: the months that stay, twice whose size does not exceed a limit
unfoldable pub keep : ℕ → List ℕ → List ℕ
keep limit [] = []
keep limit (a ∷ g) = cond (ltb limit (2 * a)) (keep limit g) (a ∷ keep limit g)

-- METHOD 5.4: the limit is five times the first spread
unfoldable pub limit_of : List ℕ → ℕ
limit_of g = 5 * spread g

-- METHOD 5.4: the sizes of the months that stay by that limit
unfoldable pub remaining : List ℕ → List ℕ
remaining g = keep (limit_of g) g

-- METHOD 5.4: the second spread, that of the months that stay (there are some: 5.8, NoGroupEmptied)
unfoldable pub second_spread : List ℕ → ℕ
second_spread g = spread (remaining g)

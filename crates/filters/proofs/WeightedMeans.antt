-- Means whose weights are natural numbers that sum to the denominator, of values at whatever places: how large, and how far from the exact ones.
use mathlib.Core.Path.{◌≡◌}
use mathlib.Core.List.{List}
use Prim.Native.Nat.{ℕ, ◌+◌, ◌*◌, ◌/◌, ◌≤◌, ◌<◌}
use native.Mathlib.Omega.{arith}
use lib.IntN.{ℤ, pos, nat_abs, ◌-ℤ◌, ◌*ℤ◌}
use Rattle.integers.specs.Sizes.{◌within◌}
use Rattle.integers.specs.Lists.{◌‼◌, AllWithin}
use Rattle.integers.specs.Rounding.{to_grain}
use Rattle.integers.specs.Sums.{wsum}
use Rattle.series.specs.Distance.{Close}
use Rattle.rows.proofs.Means.{Mean, mean_fair}
use Rattle.filters.proofs.Distances.{close_weighted}
use Rattle.filters.proofs.Largest.{within_weighted}

-- m weights w for the values at the places p, over d, which divides L
module _ (L m : ℕ) (w : ℕ → ℤ) (p : ℕ → ℕ) {d : ℕ} (r : Mean m w d) (some : 0 < d) (divides : d * (L / d) ≡ L) where
  -- the mean of numbers within b is within b
  pub within_mean : {b : ℕ} {x : List ℤ} → AllWithin b x → to_grain (wsum m w (λ j. x ‼ p j)) d within b
  within_mean {b} h = within_weighted L 1000 b m w p d (mean_fair L r some divides) (omega arith) h

  -- THE LAW: the mean of values within b thousandths is within b thousandths and a half grain
  pub close_mean : {b k : ℕ} {x e : List ℤ} → Close b k x e
      → nat_abs (pos (k * L) *ℤ to_grain (wsum m w (λ j. x ‼ p j)) d -ℤ pos (L / d) *ℤ wsum m w (λ j. e ‼ p j)) * 1000 ≤ (b + 500) * (k * L)
  close_mean {b} h = close_weighted L 1000 (b + 500) m w p d (mean_fair L r some divides) (omega arith) h

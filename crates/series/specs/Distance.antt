-- METHOD 6.3 and 6.4: how far a rounded series is from an exact one, whose numbers are whole numbers over a denominator k.
use Rattle.std.specs.Prelude.{◌≡◌, List, ℕ, ◌*◌, ◌≤◌, ◌<◌, length, ℤ, pos, nat_abs, ◌-ℤ◌, ◌*ℤ◌}
use Rattle.integers.specs.Lists.{◌‼◌}

-- the size of d less the fraction e / k, whose denominator is not 0, is at most g grains
pub record AtMostApart (g k : ℕ) (d e : ℤ) : Type 0 where
  pub positive : 0 < k
  pub size : nat_abs (pos k *ℤ d -ℤ e) ≤ g * k

-- of series: at every place; past the end both are 0
pub record AllAtMostApart (g k : ℕ) (x e : List ℤ) : Type 0 where
  pub at : (t : ℕ) → AtMostApart g k (x ‼ t) (e ‼ t)

-- the same in thousandths of a grain, of series that are as long: what the laws carry from step to step
pub record Close (b k : ℕ) (x e : List ℤ) : Type 0 where
  pub long : length x ≡ length e
  pub close : (t : ℕ) → nat_abs (pos k *ℤ (x ‼ t) -ℤ (e ‼ t)) * 1000 ≤ b * k

-- The size of a whole number against a bound.
use Rattle.std.specs.Prelude.{ℕ, ◌≤◌, ℤ, nat_abs}

-- z is at most B in size. A record, so that a number and its bound are inferred; `omega` reads and proves it by its field
infix 4 ◌within◌
pub record ◌within◌ (z : ℤ) (B : ℕ) : Type 0 where
  pub abs : nat_abs z ≤ B

-- What the rounding functions and the root ask of their arguments, and what the functions below them answer. Nothing here is promised to a
-- caller of the desk.
use Rattle.std.specs.Prelude.{cond, ℕ, ◌*◌, ℤ, pos, nat_abs, ◌+ℤ◌, ◌-ℤ◌, ◌*ℤ◌, ◌<ℤ◌}
use Rattle.std.specs.Int.Signed.{lt_z}
use Rattle.integers.specs.Sizes.{◌within◌}

-- rounding to a grain and away from zero: the largest quotient and the largest divisor, and so the largest numerator; twice that and a divisor more fit in
-- 64 bits, signed
abbrev pub largest_quotient : ℕ
largest_quotient = 4_000_000_000_000

abbrev pub largest_divisor : ℕ
largest_divisor = 1_000_000

abbrev pub largest_numerator : ℕ
largest_numerator = largest_quotient * largest_divisor

-- the root's candidates are no larger: 2^32
abbrev pub largest_candidate : ℕ
largest_candidate = 4_294_967_296

pub record Rounds (x d : ℤ) : Type 0 where
  pub quotient : x within largest_quotient * nat_abs d
  pub divisor : d within largest_divisor
  pub positive : pos 0 <ℤ d

-- rounding away from zero: what is put over twice the divisor, twice x and d more, away from zero
unfoldable pub farther : ℤ → ℤ → ℤ
farther x d = cond (lt_z x (pos 0)) (pos 2 *ℤ x -ℤ d) (pos 2 *ℤ x +ℤ d)

-- METHOD 5.5: the root in a spread, cut to a whole number.
use Rattle.std.specs.Prelude.{ℕ, zero, suc, ◌+◌, ◌*◌, ◌/◌, ◌≤◌, cond, leb, eqb}

-- METHOD 5.5: r is the largest whole number whose square does not exceed x. RootLaws shows that `root` is this number
pub record IsRoot (x r : ℕ) : Type 0 where
  pub not_above : r * r ≤ x
  pub greatest : (s : ℕ) → s * s ≤ x → s ≤ r

-- the root as a number that can be worked. r + 1 where the square of that is not above x, else r
unfoldable pub or_one_more : ℕ → ℕ → ℕ
or_one_more x r = cond (leb ((r + 1) * (r + 1)) x) (r + 1) r

-- twice the root of a quarter, or one more; k is at least as large as the number of times that x can be divided by four
unfoldable pub root_in : ℕ → ℕ → ℕ
root_in zero x = 0
root_in (suc k) x = let r = or_one_more x (2 * root_in k (x / 4)) in cond (eqb x 0) 0 r

unfoldable pub root : ℕ → ℕ
root x = root_in x x

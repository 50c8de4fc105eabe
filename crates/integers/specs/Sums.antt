-- Sums by index, and weighted sums.
use Rattle.std.specs.Prelude.{ℕ, zero, suc, ◌+◌, ℤ, pos, nat_abs, ◌+ℤ◌, ◌*ℤ◌}

-- the sum of f i over i < k
unfoldable pub sum_z : ℕ → (ℕ → ℤ) → ℤ
sum_z zero f = pos 0
sum_z (suc k) f = sum_z k f +ℤ f k

unfoldable pub sum_n : ℕ → (ℕ → ℕ) → ℕ
sum_n zero f = 0
sum_n (suc k) f = sum_n k f + f k

-- the sum of w i * x i, and the sum of the sizes of the weights
abbrev pub wsum : ℕ → (ℕ → ℤ) → (ℕ → ℤ) → ℤ
wsum k w x = sum_z k (λ i. w i *ℤ x i)

abbrev pub norm : ℕ → (ℕ → ℤ) → ℕ
norm k w = sum_n k (λ i. nat_abs (w i))

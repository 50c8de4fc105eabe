-- `integers::above` meets its contract: x has m bits, and two powers of exponent (m + 1) / 2 make at least 2 ^ m.
use Prim.Native.Nat.{ℕ, ◌+◌, ◌*◌, ◌-◌, ◌/◌, ◌^◌, ◌≤◌, ◌<◌}
use mathlib.Core.Path.{◌≡◌, subst⁻¹, ◌∙◌}
use native.Mathlib.Nat.{one-mul, le_trans, le_of_eq, lt_of_lt_of_le}
use native.Mathlib.Omega.{arith}
use lib.Dec.{lit<}
use lib.Pow.{pow_mono, pow-add, shl_exact}
use lib.Count.{count_leading_zeros, leading_length}
use Rattle.integers.specs.Promises.{largest_candidate}
use Rattle.integers.proofs.above.Goals as goal

-- 2 ^ k, for k half of m rounded up
power : (x k m : ℕ) → x < 2 ^ m → m ≤ 64 → k ≡ (m + 1) / 2 → (x < 2 ^ k * 2 ^ k) × (1 ≤ 2 ^ k) × (2 ^ k ≤ largest_candidate)
power x k m h l e = (lt_of_lt_of_le h (le_trans (pow_mono {i = m} {j = k + k} (omega arith)) (le_of_eq (pow-add 2 k k))), pow_mono {i = 0} {j = k} (omega arith), pow_mono {i = k} {j = 32} (omega arith))

pub returns : goal.returns
returns c = let x = c.args.x in let z = count_leading_zeros 64 x in let k = (65 - z) / 2 in let m = leading_length 64 x c.ranges.x.fits in
    subst⁻¹ (λ (r : ℕ). (x < r * r) × (1 ≤ r) × (r ≤ largest_candidate)) (shl_exact {a = 1} 1 k 64 (lit< tt) (omega arith) ∙ one-mul (2 ^ k)) (power x k m.0 m.2 (omega (arith, m.1)) (omega (arith, m.1)))

-- `root` is the root of METHOD 5.5, and no other number is.
use Prim.Native.Nat.{ℕ, zero, suc, ◌+◌, ◌*◌, ◌-◌, ◌/◌, ◌≤◌, ◌<◌}
use mathlib.Core.Path.{◌≡◌, refl}
use mathlib.Core.Bool.{Bool, true, false, cond}
use native.Mathlib.Nat.{mul-le-mul, le_antisymm, div-lt_iff_lt-mul}
use native.Mathlib.Decide.{dec_le}
use native.Mathlib.Omega.{arith}
use borrow.Author.Tests.{leb-true, leb-false, eqb-true, eqb-false}
use lib.Dec.{leb, eqb}
use Rattle.integers.specs.Root.{IsRoot, or_one_more, root_in, root}

-- the square of r is not above x, that of the next number is
pub record Between (x r : ℕ) : Type 0 where
  pub low : r * r ≤ x
  pub high : x < (r + 1) * (r + 1)

digit : (x r : ℕ) → Between (x / 4) r → (b : Bool) → leb ((2 * r + 1) * (2 * r + 1)) x ≡ b → Between x (cond b (2 * r + 1) (2 * r))
digit x r h true e = record { low = leb-true ((2 * r + 1) * (2 * r + 1)) x e; high = omega (arith, h.high) }
digit x r h false e = record { low = omega (arith, h.low); high = omega (arith, leb-false ((2 * r + 1) * (2 * r + 1)) x e) }

root_in-between : (k x : ℕ) → x ≤ k → Between x (root_in k x)
unfolding root_in or_one_more
root_in-between zero x l = record { low = omega arith; high = omega arith }
root_in-between (suc k) x l = go (eqb x 0) refl (λ n. root_in-between k (x / 4) (omega arith))
  where
    go : (b : Bool) → eqb x 0 ≡ b → ((x ≡ 0 → ⊥) → Between (x / 4) (root_in k (x / 4))) → Between x (cond b 0 (or_one_more x (2 * root_in k (x / 4))))
    go true e i = let z = eqb-true x 0 e in record { low = omega arith; high = omega arith }
    go false e i = digit x (root_in k (x / 4)) (i (eqb-false x 0 e)) _ refl

root-between : (x : ℕ) → Between x (root x)
unfolding root
root-between x = root_in-between x x (omega arith)

at_most : {x r s : ℕ} → s * s ≤ x → x < (r + 1) * (r + 1) → Dec (s ≤ r) → s ≤ r
at_most h k (yes l) = l
at_most {x} {r} {s} h k (no l) = let m : r + 1 ≤ s = omega arith in omega (arith, mul-le-mul m m)

between-root : {x r : ℕ} → Between x r → IsRoot x r
between-root {x} {r} h = record { not_above = h.low; greatest = λ s l. at_most l h.high (dec_le s r) }

pub root_is : (x : ℕ) → IsRoot x (root x)
root_is x = between-root (root-between x)

-- what the code finds is the root
pub root-unique : {x r : ℕ} → Between x r → r ≡ root x
root-unique {x} {r} h = le_antisymm ((root_is x).greatest r h.low) ((between-root h).greatest (root x) (root_is x).not_above)

-- ---- a candidate that is above the root, and the mean of it and its quotient
grows : (a d : ℕ) → 4 * (a * (a + d)) ≤ (a + (a + d)) * (a + (a + d))
grows a d = omega arith

four_products : (a b : ℕ) → 4 * (a * b) ≤ (a + b) * (a + b)
four_products a b = go (dec_le a b)
  where
    go : Dec (a ≤ b) → 4 * (a * b) ≤ (a + b) * (a + b)
    go (yes l) = let e : b ≡ a + (b - a) = omega arith in rw e (grows a (b - a))
    go (no l) = let e : a ≡ b + (a - b) = omega arith in rw e (omega (arith, grows b (a - b)))

quotient_above : (x r : ℕ) → 0 < r → x < (x / r + 1) * r
quotient_above x r l = (div-lt_iff_lt-mul {k = r} l).0 (omega arith)

mean_above : (x r q n : ℕ) → x < (q + 1) * r → q + 1 + r ≤ 2 * (n + 1) → x < (n + 1) * (n + 1)
mean_above x r q n h k = omega (arith, four_products (q + 1) r, mul-le-mul k k)

pub narrowed : (x r : ℕ) → 0 < r → x < ((r + x / r) / 2 + 1) * ((r + x / r) / 2 + 1)
narrowed x r l = mean_above x r (x / r) ((r + x / r) / 2) (quotient_above x r l) (omega arith)

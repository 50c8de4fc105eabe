-- The order of ℤ as an order of naturals, for `simp` and `omega`.
use mathlib.Core.Logic.{◌↔◌}
use Prim.Native.Nat.{ℕ, ◌+◌, ◌<◌, ◌≤◌}
use native.Mathlib.Omega.{arith}
use lib.Dec.{ltb→lt, lt→ltb, leb→le, le→leb}
use lib.IntN.{pos, negsuc}
use lib.Signed.{◌≤ℤ◌, ◌<ℤ◌, le_z_yes, lt_z_yes}
use Rattle.integers.proofs.Differences.{◌⊖◌, ⊖-ind}
use Rattle.integers.proofs.SizeLaws.{absℤ}

pub ≤ℤ-iff : (a b c d : ℕ) → (a ⊖ b ≤ℤ c ⊖ d) ↔ (a + d ≤ c + b)
≤ℤ-iff a b c d = (to, from)
  where
    to : a ⊖ b ≤ℤ c ⊖ d → a + d ≤ c + b
    to = ⊖-ind (λ z. z ≤ℤ c ⊖ d → a + d ≤ c + b) a b
        (λ k e. ⊖-ind (λ z. pos k ≤ℤ z → a + d ≤ c + b) c d (λ l u h. omega (arith, leb→le k l h.le)) (λ l u h. absurd h.le))
        (λ k e. ⊖-ind (λ z. negsuc k ≤ℤ z → a + d ≤ c + b) c d (λ l u h. omega arith) (λ l u h. omega (arith, leb→le l k h.le)))

    from : a + d ≤ c + b → a ⊖ b ≤ℤ c ⊖ d
    from q = ⊖-ind (λ z. z ≤ℤ c ⊖ d) a b
        (λ k e. ⊖-ind (λ z. pos k ≤ℤ z) c d (λ l u. le_z_yes (le→leb k l (omega arith))) (λ l u. absurd (omega arith)))
        (λ k e. ⊖-ind (λ z. negsuc k ≤ℤ z) c d (λ l u. le_z_yes tt) (λ l u. le_z_yes (le→leb l k (omega arith))))

pub <ℤ-iff : (a b c d : ℕ) → (a ⊖ b <ℤ c ⊖ d) ↔ (a + d < c + b)
<ℤ-iff a b c d = (to, from)
  where
    to : a ⊖ b <ℤ c ⊖ d → a + d < c + b
    to = ⊖-ind (λ z. z <ℤ c ⊖ d → a + d < c + b) a b
        (λ k e. ⊖-ind (λ z. pos k <ℤ z → a + d < c + b) c d (λ l u h. omega (arith, ltb→lt k l h.lt)) (λ l u h. absurd h.lt))
        (λ k e. ⊖-ind (λ z. negsuc k <ℤ z → a + d < c + b) c d (λ l u h. omega arith) (λ l u h. omega (arith, ltb→lt l k h.lt)))

    from : a + d < c + b → a ⊖ b <ℤ c ⊖ d
    from q = ⊖-ind (λ z. z <ℤ c ⊖ d) a b
        (λ k e. ⊖-ind (λ z. pos k <ℤ z) c d (λ l u. lt_z_yes (lt→ltb k l (omega arith))) (λ l u. absurd (omega arith)))
        (λ k e. ⊖-ind (λ z. negsuc k <ℤ z) c d (λ l u. lt_z_yes tt) (λ l u. lt_z_yes (lt→ltb l k (omega arith))))

pub ruleset ordℤ = (absℤ, ≤ℤ-iff, <ℤ-iff)

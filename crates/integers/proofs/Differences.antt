-- ℤ as differences of naturals. `a ⊖ b` is shut, so that `simp` can move sums and products into it. A ring equation is then one line:
--   t : (k x y : ℤ) → k *ℤ (x -ℤ y) ≡ k *ℤ x -ℤ k *ℤ y
--   t k x y = rw (rep k, rep x, rep y) (simp ringℤ (omega arith))
use mathlib.Core.Path.{◌≡◌, refl, sym, ap, ◌∙◌}
use mathlib.Core.Logic.{◌↔◌}
use mathlib.Core.Bool.{Bool, true, false, not, cond}
use Prim.Native.Nat.{ℕ, zero, suc, ◌+◌, ◌*◌, ◌-◌, ◌<◌, ◌≤◌}
use native.Mathlib.Omega.{arith}
use lib.Dec.{T, ltb, ltb→lt, nltb→le}
use lib.IntN.{ℤ, pos, negsuc, neg_ℤ, sub_ℕ, ◌+ℤ◌, ◌*ℤ◌, pos-ne-negsuc}

infix 60 ◌⊖◌
pub ◌⊖◌ : ℕ → ℕ → ℤ
a ⊖ b = sub_ℕ a b

-- the two parts
unfoldable pub pp : ℤ → ℕ
pp (pos n) = n
pp (negsuc n) = 0

unfoldable pub nn : ℤ → ℕ
nn (pos n) = 0
nn (negsuc n) = suc n

-- by cases
pub ⊖-ind : (P : ℤ → Type 0) (a b : ℕ) → ((k : ℕ) → a ≡ b + k → P (pos k)) → ((k : ℕ) → b ≡ a + suc k → P (negsuc k)) → P (a ⊖ b)
unfolding ◌⊖◌
⊖-ind P a b f g = go (ltb a b) (λ t. ltb→lt a b t) (λ t. nltb→le a b t)
  where
    go : (c : Bool) → (T c → a < b) → (T (not c) → b ≤ a) → P (cond c (negsuc (b - suc a)) (pos (a - b)))
    go true h k = let l : a < b = h tt in g (b - suc a) (omega arith)
    go false h k = let l : b ≤ a = k tt in f (a - b) (omega arith)

pub rep : (z : ℤ) → z ≡ pp z ⊖ nn z
unfolding pp nn
rep (pos n) = ⊖-ind (λ z. pos n ≡ z) n 0 (λ k e. ap pos (omega arith)) (λ k e. absurd (omega arith))
rep (negsuc n) = ⊖-ind (λ z. negsuc n ≡ z) 0 (suc n) (λ k e. absurd (omega arith)) (λ k e. ap negsuc (omega arith))

-- equal differences
pub ⊖-eq : (a b c d : ℕ) → a + d ≡ c + b → a ⊖ b ≡ c ⊖ d
⊖-eq a b c d h = ⊖-ind (λ z. z ≡ c ⊖ d) a b
    (λ k e. ⊖-ind (λ z. pos k ≡ z) c d (λ l u. ap pos (omega arith)) (λ l u. absurd (omega arith)))
    (λ k e. ⊖-ind (λ z. negsuc k ≡ z) c d (λ l u. absurd (omega arith)) (λ l u. ap negsuc (omega arith)))

pub ⊖-inj : (a b c d : ℕ) → a ⊖ b ≡ c ⊖ d → a + d ≡ c + b
unfolding pp nn
⊖-inj a b c d h = ⊖-ind (λ z. z ≡ c ⊖ d → a + d ≡ c + b) a b
    (λ k e. ⊖-ind (λ z. pos k ≡ z → a + d ≡ c + b) c d (λ l u q. omega (arith, ap pp q)) (λ l u q. absurd (pos-ne-negsuc k l q)))
    (λ k e. ⊖-ind (λ z. negsuc k ≡ z → a + d ≡ c + b) c d (λ l u q. absurd (pos-ne-negsuc l k (sym q))) (λ l u q. omega (arith, ap nn q))) h

pub ⊖-iff : (a b c d : ℕ) → (a ⊖ b ≡ c ⊖ d) ↔ (a + d ≡ c + b)
⊖-iff a b c d = (⊖-inj a b c d, ⊖-eq a b c d)

-- pos, negsuc, negation, sum, product
pub pos-⊖ : (n : ℕ) → pos n ≡ n ⊖ 0
pos-⊖ n = ⊖-ind (λ z. pos n ≡ z) n 0 (λ k e. ap pos (omega arith)) (λ k e. absurd (omega arith))

pub negsuc-⊖ : (n : ℕ) → negsuc n ≡ 0 ⊖ suc n
negsuc-⊖ n = ⊖-ind (λ z. negsuc n ≡ z) 0 (suc n) (λ k e. absurd (omega arith)) (λ k e. ap negsuc (omega arith))

pub neg-pos : (k : ℕ) → neg_ℤ (pos k) ≡ 0 ⊖ k
neg-pos zero = pos-⊖ 0
neg-pos (suc k) = negsuc-⊖ k

pub neg-⊖ : (a b : ℕ) → neg_ℤ (a ⊖ b) ≡ b ⊖ a
neg-⊖ a b = ⊖-ind (λ z. neg_ℤ z ≡ b ⊖ a) a b
    (λ k e. neg-pos k ∙ ⊖-eq 0 k b a (omega arith))
    (λ k e. pos-⊖ (suc k) ∙ ⊖-eq (suc k) 0 b a (omega arith))

subℕ-is : (a b : ℕ) → sub_ℕ a b ≡ a ⊖ b
unfolding ◌⊖◌
subℕ-is a b = refl

pub add-⊖ : (a b c d : ℕ) → (a ⊖ b) +ℤ (c ⊖ d) ≡ (a + c) ⊖ (b + d)
add-⊖ a b c d = ⊖-ind (λ z. z +ℤ (c ⊖ d) ≡ (a + c) ⊖ (b + d)) a b
    (λ k e. ⊖-ind (λ z. pos k +ℤ z ≡ (a + c) ⊖ (b + d)) c d
    (λ l u. pos-⊖ (k + l) ∙ ⊖-eq (k + l) 0 (a + c) (b + d) (omega arith))
    (λ l u. subℕ-is k (suc l) ∙ ⊖-eq k (suc l) (a + c) (b + d) (omega arith)))
    (λ k e. ⊖-ind (λ z. negsuc k +ℤ z ≡ (a + c) ⊖ (b + d)) c d
    (λ l u. subℕ-is l (suc k) ∙ ⊖-eq l (suc k) (a + c) (b + d) (omega arith))
    (λ l u. negsuc-⊖ (suc (k + l)) ∙ ⊖-eq 0 (suc (suc (k + l))) (a + c) (b + d) (omega arith)))

pub mul-⊖ : (a b c d : ℕ) → (a ⊖ b) *ℤ (c ⊖ d) ≡ (a * c + b * d) ⊖ (a * d + b * c)
mul-⊖ a b c d = ⊖-ind (λ z. z *ℤ (c ⊖ d) ≡ (a * c + b * d) ⊖ (a * d + b * c)) a b
    (λ k e. ⊖-ind (λ z. pos k *ℤ z ≡ (a * c + b * d) ⊖ (a * d + b * c)) c d
    (λ l u. pos-⊖ (k * l) ∙ rw (e, u) (⊖-eq _ _ _ _ (omega arith)))
    (λ l u. neg-pos (k * suc l) ∙ rw (e, u) (⊖-eq _ _ _ _ (omega arith))))
    (λ k e. ⊖-ind (λ z. negsuc k *ℤ z ≡ (a * c + b * d) ⊖ (a * d + b * c)) c d
    (λ l u. neg-pos (suc k * l) ∙ rw (e, u) (⊖-eq _ _ _ _ (omega arith)))
    (λ l u. pos-⊖ (suc k * suc l) ∙ rw (e, u) (⊖-eq _ _ _ _ (omega arith))))

-- sums and products of differences are one difference, and two differences are equal by naturals
pub ruleset ringℤ = (neg-pos, pos-⊖, negsuc-⊖, neg-⊖, add-⊖, mul-⊖, ⊖-iff)

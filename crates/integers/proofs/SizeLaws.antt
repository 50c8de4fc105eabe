-- Sizes: `nat_abs` of a ring expression against a natural number becomes two orders of naturals; bounds; distances.
use mathlib.Core.Path.{◌≡◌, refl, sym, ap, ◌∙◌}
use mathlib.Core.Logic.{◌↔◌}
use Prim.Native.Nat.{ℕ, zero, suc, ◌+◌, ◌*◌, ◌-◌, ◌^◌, ◌<◌, ◌≤◌}
use native.Mathlib.Nat.{mul-le-mul, lt_of_le_of_lt}
use native.Mathlib.Omega.{arith}
use lib.IntN.{ℤ, pos, negsuc, neg_ℤ, nat_abs, ◌+ℤ◌, ◌-ℤ◌, ◌*ℤ◌}
use Rattle.std.proofs.lemmas.Int.{fits_signed_from_abs}
use mir.Syntax.{w32, w64}
use mir.Val.{SFits}
use Rattle.integers.specs.Sizes.{◌within◌}
use Rattle.integers.proofs.Differences.{pp, nn, rep, ringℤ, ◌⊖◌, ⊖-ind}

pub abs-le→ : (a b B : ℕ) → nat_abs (a ⊖ b) ≤ B → (a ≤ b + B) × (b ≤ a + B)
abs-le→ a b B = ⊖-ind (λ z. nat_abs z ≤ B → (a ≤ b + B) × (b ≤ a + B)) a b (λ k e h. omega arith) (λ k e h. omega arith)

pub abs-le← : (a b B : ℕ) → (a ≤ b + B) × (b ≤ a + B) → nat_abs (a ⊖ b) ≤ B
abs-le← a b B h = ⊖-ind (λ z. nat_abs z ≤ B) a b (λ k e. omega arith) (λ k e. omega arith)

pub abs-le : (a b B : ℕ) → (nat_abs (a ⊖ b) ≤ B) ↔ ((a ≤ b + B) × (b ≤ a + B))
abs-le a b B = (abs-le→ a b B, abs-le← a b B)

-- of the canonical pair
pub abs-rep : (z : ℤ) → nat_abs (pp z ⊖ nn z) ≡ pp z + nn z
unfolding pp nn
abs-rep (pos n) = sym (ap nat_abs (rep (pos n))) ∙ omega arith
abs-rep (negsuc n) = sym (ap nat_abs (rep (negsuc n))) ∙ omega arith

pub ruleset absℤ = (ringℤ, abs-rep, abs-le)

pub abs_neg : (a : ℤ) → nat_abs (neg_ℤ a) ≡ nat_abs a
abs_neg (pos zero) = refl
abs_neg (pos (suc n)) = refl
abs_neg (negsuc n) = refl

pub abs-add : (a b : ℤ) → nat_abs (a +ℤ b) ≤ nat_abs a + nat_abs b
abs-add a b = rw (rep a, rep b) (simp absℤ (omega arith))

pub abs-sub : (a b : ℤ) → nat_abs (a -ℤ b) ≤ nat_abs a + nat_abs b
abs-sub a b = rw (rep a, rep b) (simp absℤ (omega arith))

pub abs-mul : (a b : ℤ) → nat_abs (a *ℤ b) ≡ nat_abs a * nat_abs b
abs-mul (pos a) (pos b) = refl
abs-mul (pos a) (negsuc b) = abs_neg (pos (a * suc b))
abs-mul (negsuc a) (pos b) = abs_neg (pos (suc a * b))
abs-mul (negsuc a) (negsuc b) = refl

-- the size of a difference of natural numbers
pub abs-⊖ : (a b : ℕ) → nat_abs (a ⊖ b) ≡ (a - b) + (b - a)
abs-⊖ a b = ⊖-ind (λ z. nat_abs z ≡ (a - b) + (b - a)) a b (λ k e. omega arith) (λ k e. omega arith)

-- ---- bounds
pub w_lit : (n : ℕ) → pos n within n
w_lit n = omega arith

pub w+ : {a b : ℤ} {A B : ℕ} → a within A → b within B → a +ℤ b within A + B
w+ {a} {b} {A} {B} h k = omega (arith, abs-add a b)

pub w- : {a b : ℤ} {A B : ℕ} → a within A → b within B → a -ℤ b within A + B
w- {a} {b} {A} {B} h k = omega (arith, abs-sub a b)

pub w* : {a b : ℤ} {A B : ℕ} → a within A → b within B → a *ℤ b within A * B
w* {a} {b} {A} {B} h k = record { abs = rw abs-mul (mul-le-mul h.abs k.abs) }

pub w≤ : {a : ℤ} {A B : ℕ} → a within A → A ≤ B → a within B
w≤ h k = omega arith

-- a number within the bound fits, in 64 bits and in 32
pub sfits64 : {z : ℤ} {B : ℕ} → z within B → B < 2 ^ 63 → SFits w64 z
sfits64 {z} h k = fits_signed_from_abs w64 z (lt_of_le_of_lt h.abs k)

pub sfits32 : {z : ℤ} {B : ℕ} → z within B → B < 2 ^ 31 → SFits w32 z
sfits32 {z} h k = fits_signed_from_abs w32 z (lt_of_le_of_lt h.abs k)

-- a bound of a difference, as orders of its parts, for `omega`'s list
pub near : (a b : ℤ) {e : ℕ} → a -ℤ b within e → (pp a + nn b ≤ nn a + pp b + e) × (nn a + pp b ≤ pp a + nn b + e)
near a b h = simp absℤ at (rw (rep a, rep b) at h.abs)

pub by-abs : {z : ℤ} {e : ℕ} → nat_abs z ≤ e → z within e
by-abs h = record { abs = h }

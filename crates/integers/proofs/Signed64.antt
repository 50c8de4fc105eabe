-- Values of an i64 computation. A signed local holds bits, so what a need shows of an intermediate result is `to_z w64 (of_z w64 ..)`, nested.
-- `Reads t z B`: the term t of the need is the number z, and z is within B. A proof puts these together as the code puts the operations together.
use mathlib.Core.Path.{◌≡◌, refl, sym, ap₂, ◌∙◌, subst}
use Prim.Native.Nat.{ℕ, suc, ◌+◌, ◌*◌, ◌^◌, ◌<◌, ◌≤◌}
use native.Mathlib.Nat.{lt_of_le_of_lt, le_trans, div-le_self}
use native.Mathlib.Omega.{arith}
use lib.Dec.{T, ltb, ltb→lt}
use lib.IntN.{ℤ, pos, negsuc, nat_abs, ◌+ℤ◌, ◌-ℤ◌, ◌*ℤ◌}
use lib.Signed.{quot_z, mag, non_neg, ◌<ℤ◌}
use mir.Syntax.{w32, w64}
use mir.Val.{Fits, SFits, to_z, of_z}
use mir.Facts.{to_z-of_z}
use Rattle.integers.specs.Sizes.{◌within◌}
use Rattle.integers.specs.Promises.{largest_quotient, largest_divisor, largest_numerator, Rounds}
use Rattle.integers.proofs.SizeLaws.{sfits32, sfits64, w_lit, w+, w-, w*, w≤, abs_neg}

pub record Reads (t z : ℤ) (B : ℕ) : Type 0 where
  pub eq : t ≡ z
  pub bound : z within B

-- a parameter or another clean value; a literal
pub i_arg : {x : ℤ} {B : ℕ} → SFits w64 x → x within B → Reads (to_z w64 (of_z w64 x)) x B
i_arg {x} f h = record { eq = to_z-of_z f; bound = h }

pub i_lit : (n : ℕ) → Reads (pos n) (pos n) n
i_lit n = record { eq = refl; bound = w_lit n }

-- the operations
pub i+ : {a b x y : ℤ} {A B : ℕ} → Reads a x A → Reads b y B → Reads (a +ℤ b) (x +ℤ y) (A + B)
i+ h k = record { eq = ap₂ ◌+ℤ◌ h.eq k.eq; bound = w+ h.bound k.bound }

pub i- : {a b x y : ℤ} {A B : ℕ} → Reads a x A → Reads b y B → Reads (a -ℤ b) (x -ℤ y) (A + B)
i- h k = record { eq = ap₂ ◌-ℤ◌ h.eq k.eq; bound = w- h.bound k.bound }

pub i* : {a b x y : ℤ} {A B : ℕ} → Reads a x A → Reads b y B → Reads (a *ℤ b) (x *ℤ y) (A * B)
i* h k = record { eq = ap₂ ◌*ℤ◌ h.eq k.eq; bound = w* h.bound k.bound }

pub abs-quot : (a b : ℤ) → nat_abs (quot_z a b) ≤ nat_abs a
abs-quot (pos a) (pos b) = div-le_self a b
abs-quot (pos a) (negsuc b) = rw abs_neg (div-le_self a (suc b))
abs-quot (negsuc a) (pos b) = rw abs_neg (div-le_self (suc a) b)
abs-quot (negsuc a) (negsuc b) = div-le_self (suc a) (suc b)

pub i/ : {a b x y : ℤ} {A B : ℕ} → Reads a x A → Reads b y B → Reads (quot_z a b) (quot_z x y) A
i/ {x = x} {y = y} h k = record { eq = ap₂ quot_z h.eq k.eq; bound = record { abs = le_trans (abs-quot x y) h.bound.abs } }

-- what an operation asks, and its result, stored and read back. That the bound fits is a test, which computes where the bound is made of
-- literals: `i_fits h tt`
abbrev pub Room : ℕ → Type 0
Room B = T (ltb B (2 ^ 63))

pub i_fits : {t z : ℤ} {B : ℕ} → Reads t z B → Room B → SFits w64 t
i_fits {B = B} h k = subst (SFits w64) (sym h.eq) (sfits64 h.bound (ltb→lt B (2 ^ 63) k))

pub i_kept : {t z : ℤ} {B : ℕ} → Reads t z B → Room B → Reads (to_z w64 (of_z w64 t)) z B
i_kept h k = record { eq = to_z-of_z (i_fits h k) ∙ h.eq; bound = h.bound }

-- a divisor
of_z-pos : (z : ℤ) → 0 < nat_abs z → nat_abs z < 2 ^ 63 → 0 < of_z w64 z
of_z-pos (pos n) h k = h
of_z-pos (negsuc n) h k = omega arith

pub i-divisor : {a b x y : ℤ} {A B : ℕ} → Reads a x A → Reads b y B → 0 < nat_abs y → Room A → Room B → (0 < of_z w64 b) × SFits w64 (quot_z a (to_z w64 (of_z w64 b)))
i-divisor {a} {b} {x} {y} {A} {B} h k p la lb =
    (rw k.eq (of_z-pos y p (lt_of_le_of_lt k.bound.abs (ltb→lt B (2 ^ 63) lb))), i_fits (i/ h (i_kept k lb)) la)

-- a positive number has a size
pub pos-abs : (d : ℤ) → pos 0 <ℤ d → 0 < nat_abs d
pos-abs (pos n) h = ltb→lt 0 n h.lt
pos-abs (negsuc n) h = omega arith

-- a value that is known to be within a bound that fits, as an element of a slice
pub i_in : {x : ℤ} {B : ℕ} → x within B → Room B → Reads (to_z w64 (of_z w64 x)) x B
i_in {B = B} h k = i_arg (sfits64 h (ltb→lt B (2 ^ 63) k)) h

-- an element of a slice of i32
pub i_in32 : {x : ℤ} {B : ℕ} → x within B → T (ltb B (2 ^ 31)) → Reads (to_z w32 (of_z w32 x)) x B
i_in32 {x} {B} h k = record { eq = to_z-of_z {w = w32} (sfits32 h (ltb→lt B (2 ^ 31) k)); bound = h }

-- another bound
pub i_bound : {t z : ℤ} {A B : ℕ} → Reads t z A → z within B → Reads t z B
i_bound h k = record { eq = h.eq; bound = k }

pub i≤ : {t z : ℤ} {A B : ℕ} → Reads t z A → A ≤ B → Reads t z B
i≤ h k = i_bound h (w≤ h.bound k)

-- the same number, written another way
pub i≡ : {t z z' : ℤ} {B : ℕ} → Reads t z B → z ≡ z' → Reads t z' B
i≡ {B = B} h e = record { eq = h.eq ∙ e; bound = subst (λ (y : ℤ). y within B) e h.bound }

-- a call's argument within a bound
pub i_within : {t z : ℤ} {B : ℕ} → Reads t z B → t within B
i_within {B = B} h = subst (λ (y : ℤ). y within B) (sym h.eq) h.bound

-- a call's result; a cast from an unsigned number
pub i_call : {r z : ℤ} {B : ℕ} → mag r < 2 ^ 63 → r ≡ z → z within B → Reads (to_z w64 (of_z w64 r)) z B
i_call f e h = record { eq = to_z-of_z {w = w64} (record { sfits = f }) ∙ e; bound = h }

pub i_cast : {n B : ℕ} → n ≤ B → Room B → Reads (to_z w64 n) (pos n) B
i_cast h k = i_in (record { abs = h }) k

-- a parameter that is positive
pub i_positive : {d : ℤ} {B : ℕ} → SFits w64 d → d within B → pos 0 <ℤ d → Reads (to_z w64 (of_z w64 d)) (pos (nat_abs d)) B
i_positive {d} f h p = i≡ (i_arg f h) (same d p)
  where
    same : (d : ℤ) → pos 0 <ℤ d → d ≡ pos (nat_abs d)
    same (pos n) h = refl
    same (negsuc n) h = absurd h.lt

-- a number that is not negative, cast to an unsigned one
pub unsigned : {t : ℤ} {n : ℕ} → t ≡ pos n → n < 2 ^ 64 → T (non_neg t) × Fits w64 (nat_abs t)
unsigned e h = rw e (tt, record { fits = h })

-- what a call returned and a local keeps, read again
pub kept : {z v : ℤ} → mag z < 2 ^ 63 → z ≡ v → to_z w64 (of_z w64 z) ≡ v
kept m e = to_z-of_z {w = w64} (record { sfits = m }) ∙ e

-- what the rounding functions ask, and how large a numerator then is
pub rounds : {t u x d : ℤ} {A B : ℕ} → Reads t x A → Reads u d B → A ≤ largest_quotient * nat_abs d → B ≤ largest_divisor → pos 0 <ℤ d → Rounds t u
rounds {t} h k a b p = record {
  quotient = subst (λ (z : ℤ). t within largest_quotient * nat_abs z) (sym k.eq) (i_within (i≤ h a));
  divisor = i_within (i≤ k b);
  positive = subst (λ (z : ℤ). pos 0 <ℤ z) (sym k.eq) p;
}

pub numerator_within : {x d : ℤ} → Rounds x d → x within largest_numerator
numerator_within r = w≤ r.quotient (omega (arith, r.divisor))

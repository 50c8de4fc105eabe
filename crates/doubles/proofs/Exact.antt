-- Sums and differences of doubles that are whole numbers are exact.
use Rattle.std.proofs.Common.{◌≡◌, ℕ, zero, suc, ◌+◌, ◌-◌, ◌*◌, ◌/◌, ◌%◌, ◌^◌, ◌<◌, ◌≤◌, Bool, true, false, cond, not, ◌&&◌, ltb, ℤ, pos, negsuc, ◌+ℤ◌, ◌-ℤ◌, neg_ℤ, nat_abs, sym, refl, ap, ◌∙◌, subst, mul-le-mul_right, mul_assoc, mul_comm, add-mul, mul-lt-mul_of_pos_right, mul-pos, div-add-mod', mul-one, mul-div_cancel, arith, ltb-false, ltb-true, le-ltb, lt-ltb, eq-eqb, eqb-true}
use native.Mathlib.Nat.{mul-sub, mul-mod_left}
use lib.Ieee.{Float, nan, inf, fin, Format, binary64, up, down, round, sum, add, sub, neg, of_int, of_bits}
use lib.Ieee.Fits.{down_pos}
use lib.Ieee.Exact.{HasValue}
use lib.Ieee.Back.{round_whole}
use lib.Ieee.Scale.{round_same}
use Rattle.integers.proofs.Differences.{ringℤ}
use Rattle.integers.proofs.SizeLaws.{abs_neg}
use Rattle.doubles.specs.Doubles.{is_whole, number_in, IsNumber, double_of, positive_zero}
use Rattle.doubles.specs.Laws.{DoubleExact, ZeroPositive, DifferenceExact, SumExact}

-- ---- a sign and a size as a whole number
abbrev pub signed : Bool → ℕ → ℤ
signed s a = cond s (neg_ℤ (pos a)) (pos a)

pub size_of_signed : (s : Bool) (a : ℕ) → nat_abs (signed s a) ≡ a
size_of_signed false a = refl
size_of_signed true a = abs_neg (pos a)

signed-not : (s : Bool) (a : ℕ) → signed (not s) a ≡ neg_ℤ (signed s a)
signed-not false a = refl
signed-not true zero = refl
signed-not true (suc a) = refl

-- the sign of a double, and of a whole number
abbrev sign_of : Float → Bool
sign_of nan = false
sign_of (inf s) = s
sign_of (fin s m e) = s

abbrev pub is_neg : ℤ → Bool
is_neg (pos n) = false
is_neg (negsuc n) = true

signed-is_neg : (z : ℤ) → signed (is_neg z) (nat_abs z) ≡ z
signed-is_neg (pos n) = refl
signed-is_neg (negsuc n) = refl

-- ---- a double that is a whole number has its value, and back
no_fraction : (n d a : ℕ) → 0 < d → n * 1 ≡ a * d → (n % d ≡ 0) × (n / d ≡ a)
no_fraction n d a p h = let e : n ≡ a * d = sym (mul-one n) ∙ h in rw e (mul-mod_left a d, mul-div_cancel a p)

pub is_number : (x : Float) (s : Bool) (a : ℕ) → HasValue x s a 1 → IsNumber x (signed s a)
unfolding is_whole number_in
is_number nan s a v = elim v [ ]
is_number (inf _) s a v = elim v [ ]
is_number (fin t m e) s a v =
    let h = no_fraction (m * up e) (down e) a (down_pos e) v.1 in
    record { whole = eq-eqb (m * up e % down e) 0 h.0; number = rw (v.0, h.1) }

pub has_value : (x : Float) (z : ℤ) → IsNumber x z → HasValue x (sign_of x) (nat_abs z) 1
unfolding is_whole number_in
has_value nan z h = let c : ◌≡◌ {A = ℕ} 0 1 = let e = h.whole in cc in absurd (omega arith)
has_value (inf s) z h = let c : ◌≡◌ {A = ℕ} 0 1 = let e = h.whole in cc in absurd (omega arith)
has_value (fin s m e) z h =
    let q = m * up e / down e in
    let a : nat_abs z ≡ q = sym (ap nat_abs h.number) ∙ size_of_signed s q in
    (refl, rw a (omega (arith, div-add-mod' (m * up e) (down e), eqb-true (m * up e % down e) 0 h.whole)))

sign_right : (x : Float) (z : ℤ) → IsNumber x z → signed (sign_of x) (nat_abs z) ≡ z
unfolding is_whole number_in
sign_right nan z h = let c : ◌≡◌ {A = ℕ} 0 1 = let e = h.whole in cc in absurd (omega arith)
sign_right (inf s) z h = let c : ◌≡◌ {A = ℕ} 0 1 = let e = h.whole in cc in absurd (omega arith)
sign_right (fin s m e) z h =
    let q = m * up e / down e in
    let a : nat_abs z ≡ q = sym (ap nat_abs h.number) ∙ size_of_signed s q in
    rw a h.number

-- ---- a sum of two whole values is the sum of the numbers, rounded
-- a common factor does not change which is less, nor the difference
scaled : (a b c : ℕ) → 0 < c → ltb (a * c) (b * c) ≡ ltb a b
scaled a b c p = by (ltb a b) refl
  where
    by : (t : Bool) → ltb a b ≡ t → ltb (a * c) (b * c) ≡ ltb a b
    by true e = rw (e, lt-ltb (a * c) (b * c) (mul-lt-mul_of_pos_right (ltb-true a b e) p))
    by false e = rw (e, le-ltb (a * c) (b * c) (mul-le-mul_right c (ltb-false a b e)))

sub-mul : (a b c : ℕ) → a * c - b * c ≡ (a - b) * c
sub-mul a b c = ap (λ (k : ℕ). k - b * c) (mul_comm a c) ∙ ap (λ (k : ℕ). c * a - k) (mul_comm b c) ∙ sym (mul-sub c a b) ∙ mul_comm c (a - b)

sum-scaled : (f : Format) (s : Bool) (a : ℕ) (t : Bool) (b c : ℕ) → 0 < c → sum f s (a * c) t (b * c) c ≡ sum f s a t b 1
unfolding sum
sum-scaled f s a t b c p =
    rw (
      scaled a b c p,
      scaled b a c p,
      round_same f s (a * c + b * c) c (a + b) 1 p (omega arith) (mul-one (a * c + b * c) ∙ sym (add-mul a b c)),
      round_same f t (b * c - a * c) c (b - a) 1 p (omega arith) (mul-one (b * c - a * c) ∙ sub-mul b a c),
      round_same f (s && ltb b a) (a * c - b * c) c (a - b) 1 p (omega arith) (mul-one (a * c - b * c) ∙ sub-mul a b c),
    )

add-whole : (f : Format) (x y : Float) (s t : Bool) (a b : ℕ) → HasValue x s a 1 → HasValue y t b 1 → add f x y ≡ sum f s a t b 1
unfolding add
add-whole f nan y s t a b v w = elim v [ ]
add-whole f (inf _) y s t a b v w = elim v [ ]
add-whole f (fin s' m e) nan s t a b v w = elim w [ ]
add-whole f (fin s' m e) (inf _) s t a b v w = elim w [ ]
add-whole f (fin s' m e) (fin t' n d) s t a b v w =
    let A : m * up e * down d ≡ a * (down e * down d) = ap (λ (k : ℕ). k * down d) (sym (mul-one (m * up e)) ∙ v.1) ∙ mul_assoc a (down e) (down d) in
    let B : n * up d * down e ≡ b * (down e * down d) = ap (λ (k : ℕ). k * down e) (sym (mul-one (n * up d)) ∙ w.1) ∙ mul_assoc b (down d) (down e) ∙ ap (λ (k : ℕ). b * k) (mul_comm (down d) (down e)) in
    rw (v.0, w.0, A, B) (sum-scaled f s a t b (down e * down d) (mul-pos (down_pos e) (down_pos d)))

-- it is rounded with the sign u and the size c; unless the first is negative zero, it is not negative zero
record Sum (f : Format) (s : Bool) (a : ℕ) (t : Bool) (b : ℕ) : Type 0 where
  u : Bool
  c : ℕ
  is : sum f s a t b 1 ≡ round f u c 1
  value : signed u c ≡ signed s a +ℤ signed t b
  size : c ≤ a + b
  positive : (s ≡ true → 0 < a) → u ≡ true → 0 < c

pub no_true : false ≡ true → ⊥
no_true e = let z : ◌≡◌ {A = ℕ} 0 1 = cc in omega arith

less : (a b : ℕ) → b ≤ a → pos (a - b) ≡ pos a +ℤ neg_ℤ (pos b)
less a b h = simp ringℤ (omega arith)

less' : (a b : ℕ) → b ≤ a → neg_ℤ (pos (a - b)) ≡ neg_ℤ (pos a) +ℤ pos b
less' a b h = simp ringℤ (omega arith)

add-comm' : (a b : ℕ) → pos a +ℤ neg_ℤ (pos b) ≡ neg_ℤ (pos b) +ℤ pos a
add-comm' a b = simp ringℤ (omega arith)

both_below : (a b : ℕ) → neg_ℤ (pos (a + b)) ≡ neg_ℤ (pos a) +ℤ neg_ℤ (pos b)
both_below a b = simp ringℤ (omega arith)

summed : (f : Format) (s : Bool) (a : ℕ) (t : Bool) (b : ℕ) → Sum f s a t b
unfolding sum
summed f false a false b = record { u = false; c = a + b; is = refl; value = refl; size = omega arith; positive = λ p e. absurd (no_true e) }
summed f true a true b = record { u = true; c = a + b; is = refl; value = both_below a b; size = omega arith; positive = λ p e. omega (arith, p refl) }
summed f false a true b = by (ltb a b) refl
  where
    by : (k : Bool) → ltb a b ≡ k → Sum f false a true b
    by true e = let l = ltb-true a b e in record { u = true; c = b - a; is = rw e; value = less' b a (omega arith) ∙ sym (add-comm' a b); size = omega arith; positive = λ p q. omega arith }
    by false e = let l = ltb-false a b e in record { u = false; c = a - b; is = rw e; value = less a b l; size = omega arith; positive = λ p q. absurd (no_true q) }
summed f true a false b = by (ltb a b) (ltb b a) refl refl
  where
    by : (k j : Bool) → ltb a b ≡ k → ltb b a ≡ j → Sum f true a false b
    by true j e g = let l = ltb-true a b e in record { u = false; c = b - a; is = rw e; value = less b a (omega arith) ∙ add-comm' b a; size = omega arith; positive = λ p q. omega arith }
    by false true e g = let l = ltb-true b a g in record { u = true; c = a - b; is = rw (e, g); value = less' a b (omega arith); size = omega arith; positive = λ p q. omega arith }
    by false false e g =
        let l = ltb-false a b e in
        let m = ltb-false b a g in
        record { u = false; c = a - b; is = rw (e, g); value = less a b l ∙ (simp ringℤ (omega arith)); size = omega arith; positive = λ p q. absurd (no_true q) }

-- ---- the laws
pub value_of : (z : ℤ) → nat_abs z ≤ 2 ^ 53 → HasValue (double_of z) (is_neg z) (nat_abs z) 1
unfolding of_int
value_of (pos n) h = round_whole binary64 false n h
value_of (negsuc n) h = round_whole binary64 true (suc n) h

pub double-exact : DoubleExact
double-exact z h = subst (IsNumber (double_of z)) (signed-is_neg z) (is_number (double_of z) (is_neg z) (nat_abs z) (value_of z h))

pub zero-positive : ZeroPositive
unfolding of_int
zero-positive = refl

-- eight zero bytes are positive zero too
pub zero_bits : of_bits binary64 0 ≡ positive_zero
unfolding of_bits
zero_bits = refl

neg_value : (x : Float) (s : Bool) (a : ℕ) → HasValue x s a 1 → HasValue (neg x) (not s) a 1
unfolding neg
neg_value nan s a v = v
neg_value (inf t) s a v = v
neg_value (fin t m e) s a v = (ap not v.0, v.1)

pub difference_exact : DifferenceExact
unfolding sub
difference_exact x y a b h k p q =
    let s = sign_of x in
    let t = not (sign_of y) in
    let r = summed binary64 s (nat_abs a) t (nat_abs b) in
    let e : sub binary64 x y ≡ round binary64 r.u r.c 1 =
    add-whole binary64 x (neg y) s t (nat_abs a) (nat_abs b) (has_value x a p) (neg_value y (sign_of y) (nat_abs b) (has_value y b q)) ∙ r.is in
    let v : signed r.u r.c ≡ a -ℤ b = r.value ∙ rw (sign_right x a p, signed-not (sign_of y) (nat_abs b), sign_right y b q) refl in
    rw (e, ← v) (is_number (round binary64 r.u r.c 1) r.u r.c (round_whole binary64 r.u r.c (omega (arith, r.size))))

of-signed : (u : Bool) (c : ℕ) → (u ≡ true → 0 < c) → round binary64 u c 1 ≡ double_of (signed u c)
unfolding of_int
of-signed false c h = refl
of-signed true zero h = absurd (omega (arith, h refl))
of-signed true (suc c) h = refl

negative : (z : ℤ) → is_neg z ≡ true → 0 < nat_abs z
negative (pos n) e = let c : ◌≡◌ {A = ℕ} 0 1 = cc in absurd (omega arith)
negative (negsuc n) e = omega arith

pub sum_exact : SumExact
sum_exact a b y h q =
    let t = sign_of y in
    let r = summed binary64 (is_neg a) (nat_abs a) t (nat_abs b) in
    add-whole binary64 (double_of a) y (is_neg a) t (nat_abs a) (nat_abs b) (value_of a h) (has_value y b q)
    ∙ r.is
    ∙ of-signed r.u r.c (r.positive (negative a))
    ∙ ap double_of (r.value ∙ rw (signed-is_neg a, sign_right y b q) refl)

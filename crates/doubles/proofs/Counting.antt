-- Which doubles count, as the code finds out: by the whole part, and whether the double equals it.
use Rattle.std.proofs.Common.{◌≡◌, ℕ, zero, suc, ◌*◌, ◌/◌, ◌%◌, ◌^◌, ◌<◌, ◌≤◌, min, Bool, true, false, ◌&&◌, ◌||◌, T, eqb, leb, ℤ, pos, negsuc, ◌+ℤ◌, neg_ℤ, nat_abs, sym, refl, ap, ◌∙◌, subst, mul_assoc, mul-pos, div-add-mod', zero-mul, mul-one, mul_right_comm, arith, w32, SFits, lt-ltb, eq-eqb, ne_eqb, eqb-true, le-leb}
use mathlib.Core.Bool.{beq}
use native.Mathlib.Nat.{eq_of_mul-eq-mul_right}
use borrow.Author.Tests.{lt-leb, leb-false, eqb-false}
use lib.Ieee.{Float, nan, inf, fin, binary64, up, down, eq, of_int, to_signed, of_bits, add, in_signed, in_float}
use lib.Ieee.Fits.{down_pos}
use lib.Ieee.Back.{positive_back, negative_back}
use lib.Ieee.Exact.{HasValue}
use Rattle.integers.proofs.Differences.{rep, ringℤ}
use Rattle.integers.proofs.SizeLaws.{abs_neg}
use Rattle.refusals.specs.Inside.{figure_inside}
use Rattle.refusals.specs.Limits.{largest_figure}
use Rattle.refusals.proofs.InsideLaws.{both, figure-inside}
use Rattle.doubles.specs.Doubles.{is_whole, number_in, counts, IsNumber, double_of}
use Rattle.doubles.specs.Laws.{NamedDoubles}
use Rattle.doubles.proofs.Exact.{zero-positive, zero_bits, sum_exact, signed, size_of_signed, is_neg, value_of}

-- ---- a double that counts
pub counts-number : (x : Float) → counts x ≡ true → IsNumber x (number_in x)
unfolding counts
counts-number x h = record { whole = (both (is_whole x) (figure_inside (number_in x)) h).0; number = refl }

pub counts-size : (x : Float) → counts x ≡ true → nat_abs (number_in x) ≤ largest_figure
unfolding counts
counts-size x h = figure-inside (number_in x) (both (is_whole x) (figure_inside (number_in x)) h).1

-- and one that is a whole number inside the limits
pub number_counts : (x : Float) (z : ℤ) → IsNumber x z → figure_inside z ≡ true → counts x ≡ true
unfolding counts
number_counts x z h l = rw (h.whole, h.number) l

-- a figure fits in 32 bits
pub fits32 : (z : ℤ) → nat_abs z ≤ largest_figure → SFits w32 z
fits32 (pos n) h = record { sfits = omega arith }
fits32 (negsuc k) h = record { sfits = omega arith }

-- ---- the doubles that METHOD 7.11 names
pub named_doubles : NamedDoubles
unfolding counts is_whole number_in figure_inside of_bits
named_doubles = record { count = refl; numbers = refl; others = refl }

-- ---- where the whole part is far
-- by sign, m and e
counts-fin : (s : Bool) (m : ℕ) (e : ℤ) → counts (fin s m e) ≡ (eqb (m * up e % down e) 0 && leb (m * up e / down e) largest_figure)
unfolding counts is_whole number_in figure_inside
counts-fin s m e = rw (size_of_signed s (m * up e / down e))

pub none-counts : (counts nan ≡ false) × ((s : Bool) → counts (inf s) ≡ false)
unfolding counts is_whole
none-counts = (refl, λ s. refl)

-- what is far in size does not count
big : (s : Bool) (m : ℕ) (e : ℤ) → largest_figure < m * up e / down e → counts (fin s m e) ≡ false
big s m e h = counts-fin s m e ∙ by (eqb (m * up e % down e) 0) (leb (m * up e / down e) largest_figure) (lt-leb (m * up e / down e) largest_figure h)
  where
    by : (b d : Bool) → d ≡ false → (b && d) ≡ false
    by true d e = e
    by false d e = refl

pub too_far : (x : Float) → largest_figure < nat_abs (to_signed 31 x) → counts x ≡ false
unfolding to_signed
too_far nan h = none-counts.0
too_far (inf s) h = none-counts.1 s
too_far (fin true m e) h = big true m e (omega (arith, abs_neg (pos (min (m * up e / down e) 2147483648))))
too_far (fin false m e) h = big false m e (omega arith)

-- ---- where the whole part is near
-- where two equations say the same, so do their tests
same_test : (a b c d : ℕ) → (a ≡ b → c ≡ d) → (c ≡ d → a ≡ b) → eqb a b ≡ eqb c d
same_test a b c d f g = by (eqb c d) refl
  where
    by : (t : Bool) → eqb c d ≡ t → eqb a b ≡ eqb c d
    by true h = rw h (eq-eqb a b (g (eqb-true c d h)))
    by false h = rw h (ne_eqb a b (λ p. eqb-false c d h (f p)))

-- a whole value against any finite value
eq_value : (y : Float) (u : Bool) (q : ℕ) → HasValue y u q 1 → (s : Bool) (m : ℕ) (e : ℤ)
    → eq y (fin s m e) ≡ (eqb (q * down e) (m * up e) && (beq u s || eqb q 0))
unfolding eq
eq_value nan u q v s m e = elim v [ ]
eq_value (inf _) u q v s m e = elim v [ ]
eq_value (fin t a b) u q v s m e =
    let A : a * up b ≡ q * down b = sym (mul-one (a * up b)) ∙ v.1 in
    let swap : q * down b * down e ≡ q * down e * down b = mul_right_comm q (down b) (down e) in
    let same : eqb (q * down b * down e) (m * up e * down b) ≡ eqb (q * down e) (m * up e) = same_test _ _ _ _
    (λ p. eq_of_mul-eq-mul_right (down b) (down_pos b) (q * down e) (m * up e) (sym swap ∙ p))
    (λ p. swap ∙ ap (λ (k : ℕ). k * down b) p) in
    let none : eqb (q * down b * down e) 0 ≡ eqb q 0 = same_test _ _ _ _
    (λ p. eq_of_mul-eq-mul_right (down b * down e) (mul-pos (down_pos b) (down_pos e)) q 0 (sym (mul_assoc q (down b) (down e)) ∙ p ∙ sym (zero-mul (down b * down e))))
    (λ p. ap (λ (k : ℕ). k * down b * down e) p ∙ ap (λ (k : ℕ). k * down e) (zero-mul (down b)) ∙ zero-mul (down e)) in
    rw (v.0, A, same, none)

-- the sign that the double of ±q has goes with s, or q is 0
sign_goes : (s : Bool) (q : ℕ) → (beq (is_neg (signed s q)) s || eqb q 0) ≡ true
sign_goes false q = refl
sign_goes true zero = refl
sign_goes true (suc k) = refl

and_true : (a b : Bool) → b ≡ true → (a && b) ≡ a
and_true true b h = h
and_true false b h = refl

and_false : (a b : Bool) → b ≡ false → (a && b) ≡ false
and_false true b h = h
and_false false b h = refl

outside : (z : ℤ) → figure_inside z ≡ false → largest_figure < nat_abs z
unfolding figure_inside
outside z h = leb-false (nat_abs z) largest_figure h

-- the quotient times the divisor is the number exactly where nothing is left over
no_rest : (n d : ℕ) → eqb (n / d * d) n ≡ eqb (n % d) 0
no_rest n d = same_test (n / d * d) n (n % d) 0 (λ p. omega (arith, div-add-mod' n d)) (λ p. omega (arith, div-add-mod' n d))

near : (s : Bool) (m : ℕ) (e : ℤ) → m * up e / down e ≤ largest_figure → eq (of_int binary64 (number_in (fin s m e))) (fin s m e) ≡ counts (fin s m e)
unfolding number_in
near s m e h =
    let q = m * up e / down e in
    let z = signed s q in
    let v : HasValue (of_int binary64 z) (is_neg z) q 1 =
    subst (λ (k : ℕ). HasValue (of_int binary64 z) (is_neg z) k 1) (size_of_signed s q) (value_of z (omega (arith, size_of_signed s q))) in
    eq_value (of_int binary64 z) (is_neg z) q v s m e
    ∙ and_true (eqb (q * down e) (m * up e)) _ (sign_goes s q)
    ∙ no_rest (m * up e) (down e)
    ∙ sym (counts-fin s m e ∙ and_true (eqb (m * up e % down e) 0) _ (le-leb q largest_figure h))

eq_nan : (y : Float) → eq y nan ≡ false
unfolding eq
eq_nan nan = refl
eq_nan (inf s) = refl
eq_nan (fin s m e) = refl

-- the whole part of x as the machine cuts it is its number; and x counts exactly where it equals the double of that
pub record Near (x : Float) : Type 0 where
  pub number : to_signed 31 x ≡ number_in x
  pub test : eq (of_int binary64 (to_signed 31 x)) x ≡ counts x

cut : (n q : ℕ) → min q n ≤ largest_figure → largest_figure < n → min q n ≡ q
cut n q h k = omega arith

pub near_test : (x : Float) → nat_abs (to_signed 31 x) ≤ largest_figure → Near x
unfolding to_signed number_in
near_test nan h = record { number = refl; test = eq_nan (of_int binary64 (pos 0)) ∙ sym none-counts.0 }
near_test (inf true) h = absurd (omega arith)
near_test (inf false) h = absurd (omega arith)
near_test (fin true m e) h =
    let q = m * up e / down e in
    let k = abs_neg (pos (min q 2147483648)) in
    let small = cut 2147483648 q (omega (arith, k)) (omega arith) in
    record { number = ap (λ (k : ℕ). neg_ℤ (pos k)) small; test = rw small (near true m e (omega (arith, k))) }
near_test (fin false m e) h =
    let q = m * up e / down e in
    let small = cut 2147483647 q (omega arith) (omega arith) in
    record { number = ap pos small; test = rw small (near false m e (omega arith)) }

-- so x counts exactly where it equals the double of its whole part, and that is a figure
pub part-number : (x : Float) → figure_inside (to_signed 31 x) ≡ true → to_signed 31 x ≡ number_in x
part-number x h = (near_test x (figure-inside (to_signed 31 x) h)).number

pub part-test : (x : Float) → counts x ≡ (eq (of_int binary64 (to_signed 31 x)) x && figure_inside (to_signed 31 x))
part-test x = by (figure_inside (to_signed 31 x)) refl
  where
    by : (b : Bool) → figure_inside (to_signed 31 x) ≡ b → counts x ≡ (eq (of_int binary64 (to_signed 31 x)) x && figure_inside (to_signed 31 x))
    by true e = sym (near_test x (figure-inside (to_signed 31 x) e)).test ∙ sym (and_true _ (figure_inside (to_signed 31 x)) e)
    by false e = too_far x (outside (to_signed 31 x) e) ∙ sym (and_false _ (figure_inside (to_signed 31 x)) e)

-- ---- where a double is known to count, positive zero and it sum to the double of its number, which the machine casts to that number
back : (z : ℤ) → nat_abs z ≤ largest_figure → T (in_signed binary64 31 (double_of z)) × (to_signed 31 (double_of z) ≡ z)
unfolding in_float
back (pos n) h = positive_back binary64 31 n (subst T (sym (le-leb n (2 ^ 53) (omega arith))) tt) (omega arith)
back (negsuc k) h = negative_back binary64 31 k (subst T (sym (lt-ltb k (2 ^ 53) (omega arith))) tt) (omega arith)

nothing_added : (z : ℤ) → pos 0 +ℤ z ≡ z
nothing_added z = rw (rep z) (simp ringℤ (omega arith))

pub from_zero : (x : Float) → counts x ≡ true → add binary64 (of_bits binary64 0) x ≡ double_of (number_in x)
from_zero x h =
    ap (λ (y : Float). add binary64 y x) (zero_bits ∙ sym zero-positive)
    ∙ sum_exact (pos 0) (number_in x) x (omega arith) (counts-number x h)
    ∙ ap double_of (nothing_added (number_in x))

pub cast_back : (x : Float) → counts x ≡ true → T (in_signed binary64 31 (double_of (number_in x))) × (to_signed 31 (double_of (number_in x)) ≡ number_in x)
cast_back x h = back (number_in x) (counts-size x h)

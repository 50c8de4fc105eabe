-- Laws of decimal digits: what they are made of, how many there are, and how they are stored.
use Prim.Native.Nat.{ℕ, zero, suc, ◌+◌, ◌/◌, ◌%◌, ◌^◌, ◌≤◌, ◌<◌}
use mathlib.Core.Path.{◌≡◌, refl, sym, ap, ◌∙◌}
use mathlib.Core.Bool.{Bool, true, false, cond}
use mathlib.Core.List.{List, [], ◌∷◌, ◌++◌}
use native.Mathlib.Nat.{pow-suc, div-add-mod', mod-lt, div-lt_iff_lt-mul}
use native.Mathlib.Omega.{arith}
use borrow.Author.Tests.{lt-ltb, le-ltb, ltb-true, ltb-false}
use lib.Dec.{ltb}
use Rattle.std.specs.Fmt.{decimal}
use Rattle.std.proofs.lemmas.Fmt.{AppendsLastDigit, decimal_from_appends, decimal_digit, length-decimal-le}
use lib.IntN.{ℤ, pos, negsuc, nat_abs}
use lib.Signed.{lt_z, mag}
use lib.ListN.{length, length-append}
use Rattle.decimals.specs.Decimal.{digit, digits_in, digits, minus_sign, signed_digits}
use Rattle.decimals.specs.declared.Text.{Text}
use Rattle.decimals.specs.Storing.{Put}
use Rattle.decimals.proofs.StoringLaws.{put-then, put-eq, put_short}

-- ---- the digits are those that the library prints
below_power : (n : ℕ) → n < 10 ^ n
below_power zero = omega arith
below_power (suc n) = omega (arith, pow-suc 10 n, below_power n)

last_after : AppendsLastDigit digits_in
unfolding digits_in
last_after = record { one = λ k n h. rw (lt-ltb n 10 h); more = λ k n h. rw (le-ltb n 10 h) }

pub digits-decimal : (n : ℕ) → n < 2 ^ 64 → digits n ≡ decimal n
unfolding digits digits_in
digits-decimal zero h = sym (decimal_digit 0 (omega arith))
digits-decimal (suc n) h = decimal_from_appends digits_in last_after (suc n) (suc n) h (length-decimal-le (suc n) (suc n) (omega arith) (below_power (suc n)) h)

-- ---- enough divisions give the digits
tenth : (n k : ℕ) → 10 ≤ n → n ≤ suc k → n / 10 ≤ k
tenth n k h e = omega (arith, div-add-mod' n 10, mod-lt n {m = 10} (omega arith))

same_digits : (k m n : ℕ) → n ≤ k → n ≤ m → digits_in k n ≡ digits_in m n
unfolding digits_in
same_digits zero zero n h e = refl
same_digits zero (suc m) n h e = rw (lt-ltb n 10 (omega arith))
same_digits (suc k) zero n h e = rw (lt-ltb n 10 (omega arith))
same_digits (suc k) (suc m) n h e = by (ltb n 10) refl (λ l. same_digits k m (n / 10) (tenth n k l h) (tenth n m l e))
  where
    by : (b : Bool) → ltb n 10 ≡ b → (10 ≤ n → digits_in k (n / 10) ≡ digits_in m (n / 10))
        → cond b (digit n ∷ []) (digits_in k (n / 10) ++ digit (n % 10) ∷ []) ≡ cond b (digit n ∷ []) (digits_in m (n / 10) ++ digit (n % 10) ∷ [])
    by true t next = refl
    by false t next = ap (λ (ds : List ℕ). ds ++ digit (n % 10) ∷ []) (next (ltb-false n 10 t))

-- one digit; more than one, of any number
pub one-digit : (n : ℕ) → n < 10 → digits n ≡ digit n ∷ []
one-digit n h = digits-decimal n (omega arith) ∙ decimal_digit n h

pub more-digits : (n : ℕ) → 10 ≤ n → digits n ≡ digits (n / 10) ++ digit (n % 10) ∷ []
unfolding digits digits_in
more-digits zero h = absurd (omega arith)
more-digits (suc n) h =
    rw (le-ltb (suc n) 10 h)
    (ap (λ (ds : List ℕ). ds ++ digit (suc n % 10) ∷ []) (same_digits n (suc n / 10) (suc n / 10) (tenth (suc n) n h (omega arith)) (omega arith)))

-- ---- how many there are
pub one-long : (n : ℕ) → n < 10 → length (digits n) ≡ 1
one-long n h = rw (one-digit n h)

pub one-longer : (n : ℕ) → 10 ≤ n → length (digits n) ≡ length (digits (n / 10)) + 1
one-longer n h = rw (more-digits n h, length-append)

pub few-digits : (k n : ℕ) → n < 10 ^ suc k → length (digits n) ≤ suc k
few-digits zero n h = omega (arith, one-long n (omega arith))
few-digits (suc k) n h = by (ltb n 10) refl (few-digits k (n / 10) ((div-lt_iff_lt-mul (omega arith)).1 (omega (arith, pow-suc 10 (suc k)))))
  where
    by : (b : Bool) → ltb n 10 ≡ b → length (digits (n / 10)) ≤ suc k → length (digits n) ≤ suc (suc k)
    by true t next = omega (arith, one-long n (ltb-true n 10 t))
    by false t next = omega (arith, one-longer n (ltb-false n 10 t))

pub at-most-twenty : (n : ℕ) → n < 2 ^ 64 → length (digits n) ≤ 20
at-most-twenty n h = few-digits 19 n (omega arith)

pub at-most-signed : (x : ℤ) → mag x < 2 ^ 63 → length (signed_digits x) ≤ 21
unfolding signed_digits
at-most-signed (pos n) h = omega (arith, at-most-twenty n (omega arith))
at-most-signed (negsuc n) h = omega (arith, at-most-twenty (suc n) (omega arith))

-- ---- digits that are put
module _ {x y : Text} {n : ℕ} where
  pub first-digit : {d : ℕ} → Put 1 x (d ∷ []) y → d ≡ digit n → n < 10 → Put 20 x (digits n) y
  first-digit p e h = put-eq (ap (λ (d : ℕ). d ∷ []) e ∙ sym (one-digit n h)) (put_short p (omega arith))

  pub next-digit : {d : ℕ} {mid : Text} → Put 20 x (digits (n / 10)) mid → Put 1 mid (d ∷ []) y → d ≡ digit (n % 10) → 10 ≤ n → n < 2 ^ 64 → Put 20 x (digits n) y
  next-digit p q e h l =
      put_short (put-eq (ap (λ (d : ℕ). digits (n / 10) ++ d ∷ []) e ∙ sym (more-digits n h)) (put-then p q)) (at-most-twenty n l)

-- ---- the sign: y is x as the code reads it, and s its size
module _ {x y : ℤ} {s : ℕ} (e : s ≡ nat_abs y) (r : y ≡ x) where
  pub below-zero : lt_z y (pos 0) ≡ true → minus_sign ∷ digits s ≡ signed_digits x
  unfolding signed_digits
  below-zero t = ap (λ (n : ℕ). minus_sign ∷ digits n) e ∙ by y t ∙ ap signed_digits r
    where
      by : (y : ℤ) → lt_z y (pos 0) ≡ true → minus_sign ∷ digits (nat_abs y) ≡ signed_digits y
      by (pos n) t = let h = ltb-true n 0 t in absurd (omega arith)
      by (negsuc n) t = refl

  pub not-below-zero : lt_z y (pos 0) ≡ false → digits s ≡ signed_digits x
  unfolding signed_digits
  not-below-zero t = ap digits e ∙ by y t ∙ ap signed_digits r
    where
      by : (y : ℤ) → lt_z y (pos 0) ≡ false → digits (nat_abs y) ≡ signed_digits y
      by (pos n) t = refl
      by (negsuc n) t = let z : ◌≡◌ {A = ℕ} 0 1 = cc in absurd (omega arith)

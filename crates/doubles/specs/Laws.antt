-- METHOD 7.11 and 7.13: the doubles that METHOD names and some more, and what holds of doubles and whole numbers, in full; the names in brackets are those of the
-- proofs, in proofs/.
use Rattle.std.specs.Prelude.{◌≡◌, ℕ, ◌^◌, ◌≤◌, true, false, List, [], ◌∷◌, map, ℤ, pos, negsuc, ◌+ℤ◌, ◌-ℤ◌, from_bits, unsigned_abs, Float}
use Rattle.std.specs.Float.{binary64}
use Rattle.std.specs.Float.Ieee.{add, sub}
use Rattle.doubles.specs.Doubles.{counts, number_in, IsNumber, double_of, positive_zero}

-- METHOD 7.11: doubles that count, by their bits, and which number each is: both zeros, 1, -7, 199,999 and both limits (`negsuc k` is the number -1 - k)
abbrev pub counting : List ℕ
counting =
    0x0000_0000_0000_0000 ∷ 0x8000_0000_0000_0000 ∷ 0x3ff0_0000_0000_0000 ∷ 0xc01c_0000_0000_0000
    ∷ 0x4108_69f8_0000_0000 ∷ 0x4108_6a00_0000_0000 ∷ 0xc108_6a00_0000_0000 ∷ []

abbrev pub their_numbers : List ℤ
their_numbers = pos 0 ∷ pos 0 ∷ pos 1 ∷ negsuc 6 ∷ pos 199_999 ∷ pos 200_000 ∷ negsuc 199_999 ∷ []

-- and some that do not: the smallest above zero, 0.1, -0.5, 199,999.5, 200,000.5, 200,001 and -200,001, 2 ^ 31, 2 ^ 53, both infinities, and four patterns
-- that are no number
abbrev pub not_counting : List ℕ
not_counting =
    0x0000_0000_0000_0001 ∷ 0x3fb9_9999_9999_999a ∷ 0xbfe0_0000_0000_0000 ∷ 0x4108_69fc_0000_0000 ∷ 0x4108_6a04_0000_0000
    ∷ 0x4108_6a08_0000_0000 ∷ 0xc108_6a08_0000_0000 ∷ 0x41e0_0000_0000_0000 ∷ 0x4340_0000_0000_0000
    ∷ 0x7ff0_0000_0000_0000 ∷ 0xfff0_0000_0000_0000
    ∷ 0x7ff8_0000_0000_0000 ∷ 0x7ff0_0000_0000_0001 ∷ 0xfff8_0000_0000_0000 ∷ 0xffff_ffff_ffff_ffff ∷ []

-- (Counting.named_doubles)
pub record NamedDoubles : Type 0 where
  pub count : map (λ bits. counts (from_bits binary64 bits)) counting ≡ true ∷ true ∷ true ∷ true ∷ true ∷ true ∷ true ∷ []
  pub numbers : map (λ bits. number_in (from_bits binary64 bits)) counting ≡ their_numbers
  pub others : map (λ bits. counts (from_bits binary64 bits)) not_counting
      ≡ false ∷ false ∷ false ∷ false ∷ false ∷ false ∷ false ∷ false ∷ false ∷ false ∷ false ∷ false ∷ false ∷ false ∷ false ∷ []

-- METHOD 7.13: the double of a whole number up to 2 ^ 53 in size is exactly that number (Exact.double-exact)
abbrev pub DoubleExact : Type 0
DoubleExact = (z : ℤ) → unsigned_abs z ≤ 2 ^ 53 → IsNumber (double_of z) z

-- and that of 0 is positive zero (Exact.zero-positive)
abbrev pub ZeroPositive : Type 0
ZeroPositive = double_of (pos 0) ≡ positive_zero

-- where two doubles are whole numbers up to 2 ^ 52 in size, their difference in doubles is exactly the difference of the numbers (Exact.difference_exact)
abbrev pub DifferenceExact : Type 0
DifferenceExact = (x y : Float) (a b : ℤ) → unsigned_abs a ≤ 2 ^ 52 → unsigned_abs b ≤ 2 ^ 52 → IsNumber x a → IsNumber y b → IsNumber (sub binary64 x y) (a -ℤ b)

-- the double of a, up to 2 ^ 53 in size, and a double that is a whole number b: their sum in doubles is the double of a + b, which is exact up to 2 ^ 53
-- (DoubleExact), and positive zero where a + b is 0, whichever zero b is (Exact.sum_exact)
abbrev pub SumExact : Type 0
SumExact = (a b : ℤ) (y : Float) → unsigned_abs a ≤ 2 ^ 53 → IsNumber y b → add binary64 (double_of a) y ≡ double_of (a +ℤ b)
